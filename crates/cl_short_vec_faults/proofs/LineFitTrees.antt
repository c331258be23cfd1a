-- What is known of the leaves of a vector value: by the tree.
use Rattle.std.proofs.Common.{◌≡◌, ℕ, ◌≤◌, ◌<◌, Bool, true, false, not, ◌&&◌, List, [], ◌∷◌, Option, Some, None}
use Rattle.std.proofs.Common.{if◌then◌else◌, refl, ap, sym, ◌∙◌, subst, inl, inr, ◌⊎◌, arith}
use Rattle.std.proofs.lemmas.Bool.{false≢true}
use Rattle.std.proofs.lemmas.Option.{none-some}
use Rattle.wg_num.specs.declared.types.IntType.{IntType}
use Rattle.wg_num.specs.declared.types.Bin.{Bin}
use Rattle.wg_num.specs.declared.types.Fun.{Fun}
use Rattle.cl_tree.specs.declared.tree.Form.{Form}
use Rattle.cl_tree.specs.declared.tree.Form.TheVariants as forms
use Rattle.cl_tree.specs.Syntax.{Syntax, node, Forest, none, more}
use Rattle.cl_tree.specs.Nodes.{forest1}
use Rattle.cl_meaning.specs.Spelling.{name_in, binary_in, prefix_in, postfix_in, intrinsic_in}
use Rattle.cl_meaning.specs.Declarations.{form_of}
use Rattle.cl_meaning.specs.declared.operators.Prefix.{Prefix}
use Rattle.cl_meaning.specs.declared.operators.Prefix.TheVariants as prefixes
use Rattle.cl_meaning.specs.declared.operators.Postfix.{Postfix}
use Rattle.cl_meaning.specs.declared.names.Intrinsic.{Intrinsic}
use Rattle.cl_meaning.specs.declared.names.Intrinsic.TheVariants as intrinsics
use Rattle.cl_meaning.specs.declared.kind.Reach.{Reach}
use Rattle.cl_meaning.specs.declared.kind.Kind as plain_kinds
use Rattle.cl_meaning.specs.declared.kind.Kind.TheVariants as kinds
use Rattle.cl_meaning.specs.declared.kind.Role.TheVariants as roles
use Rattle.cl_meaning.specs.Environment.{Env}
use Rattle.cl_meaning.specs.Kinds.{is_some, Callee, known, callee_of}
use Rattle.cl_meaning.specs.Visible.{in_arguments, is_fence_callee, kind_of}
use Rattle.cl_meaning.specs.Faults.{Asked}
use Rattle.cl_check_sound.specs.Shape.{indexes, is_expression, IsType, PrefixOf, IsExpressionOf, AreExpressionsOf}
use Rattle.cl_check_sound.specs.Sound.{SoundTree}
use Rattle.cl_check_sound.proofs.Grown.{each_append}
use Rattle.cl_check_sound.proofs.Plain.{SoundHere}
use Rattle.cl_short_vec.specs.declared.kinds.Kind.{Kind}
use Rattle.cl_short_vec.specs.declared.kinds.Kind.TheVariants.{Vectors, Pointer, Other}
use Rattle.cl_short_vec.specs.declared.roles.Role.{Role}
use Rattle.cl_short_vec.specs.declared.roles.Role.TheVariants.{Free, Used, Target, Base, Listed, Items}
use Rattle.cl_short_vec.specs.Types.{selection_in}
use Rattle.cl_short_vec.specs.Plain.{is_pointed}
use Rattle.cl_short_vec.specs.Kinds.{Names, calls_fence, with_fences, within, behind, later, is_vector, joined_kind, postfix_kind, called_kind}
use Rattle.cl_short_vec.specs.Marks.{Mark, mark, unmarked, marking, kind_at}
use Rattle.cl_short_vec.specs.Marks.{vector_among, kind_by, marked, marked_parts}
use Rattle.cl_short_vec.specs.Roles.{is_element, is_element_kind, element_by, role_of, is_list_cast}
use Rattle.cl_short_vec.specs.Roles.{paren_role, used_in}
use Rattle.cl_short_vec.specs.Roles.{operand_role, selected_role, item_role}
use Rattle.cl_short_vec.specs.Faults.{refusals}
use Rattle.cl_short_vec.specs.Made.{made_in, made_by_prefix, made_by_selection, made_by_operator, is_comma}
use Rattle.cl_short_vec.specs.Order.{Step, Number, Copy, Load, type_in, count_in, named_by, steps_by, steps_in}
use Rattle.cl_short_vec.specs.Order.{all_steps, list_steps, inside_steps, element_steps, variable_steps}
use Rattle.cl_short_vec.proofs.Small.{SmallKind, mark_small, marked_small}
use Rattle.cl_short_vec_faults.specs.PlainForm.{plain_of, plains_of}
use Rattle.cl_short_vec_faults.specs.Plainly.{NoPoint, NoPoints, Plainly}
use Rattle.cl_short_vec_faults.specs.Parts.{KnownAlone}
use Rattle.cl_short_vec_faults.specs.Law.{AllGive}
use Rattle.cl_short_vec_faults.specs.Leaves.{IsNumber}
use Rattle.cl_short_vec_faults.specs.Lines.{IsNumberLeaf}
use Rattle.cl_short_vec_faults.proofs.LineKinds.{known_kind}
use Rattle.cl_short_vec_faults.proofs.Refused.{node_none, part_none, is_inner, used_inner, expression_form}
use Rattle.cl_short_vec_faults.proofs.Refused.{expression_names}
use Rattle.cl_short_vec_faults.proofs.PlainForms.{plain_made, plains_made, postfix_part, postfix_unpointed}
use Rattle.cl_short_vec_faults.proofs.PlainForms.{unpointed_selection}
use Rattle.cl_short_vec_faults.proofs.Claims.{plain_here}
use Rattle.cl_short_vec_faults.proofs.Calling.{call_here}
use Rattle.cl_short_vec_faults.proofs.Operands.{small_names}
use Rattle.cl_short_vec_faults.proofs.PartShown.{each_split}
use Rattle.cl_short_vec_faults.proofs.PartCalls.{AreTypesOr, operands_are, operands_made, expressions_operands}
use Rattle.cl_short_vec_faults.proofs.LineLeaves.{LeafOf}
use Rattle.cl_short_vec_faults.proofs.LineSteps.{LeafFits}
use Rattle.cl_short_vec_faults.proofs.LineFits.{is_item, is_list_role, inner_item, item_apart, paren_item}
use Rattle.cl_short_vec_faults.proofs.LineFits.{alone_no_vector}
use Rattle.cl_short_vec_faults.proofs.LineFits.{IsElement, is_element_made, prefixed_element, postfixed_element}
use Rattle.cl_short_vec_faults.proofs.LineFits.{variable_only, from_start, two_none, all_none, Fit, AreNumbers}
use Rattle.cl_short_vec_faults.proofs.LineFits.{FitsIn, AllFit}
use Rattle.cl_short_vec_faults.proofs.LineFits.{node_steps, one_part, two_parts, All, every_part}

pub small_count : (k : Kind) → SmallKind k → count_in k ≤ 16
small_count (Vectors v r) h = h
small_count (Pointer s c v) h = omega arith
small_count (Other b) h = omega arith

-- the parts of a call are looked at where it is a vector
abbrev Needs : Form → Kind → Type 0
Needs forms.CallNode k = is_vector k ≡ true
Needs form k = Unit {0}

pub indexes_some : (o : Option Postfix) → indexes o ≡ true → is_some o ≡ true
indexes_some None h = absurd (false≢true h)
indexes_some (Some q) h = refl

-- an element behind a pointer
pub index_element : (s : Option (List ℕ)) (o : Option Postfix) (j : Kind) → s ≡ None →
    is_vector (postfix_kind s o j) ≡ true → IsElement (postfix_kind s o j)
index_element None o j z v = postfixed_element o j v
index_element (Some name) o j z v = absurd cc

pub index_is : (s : Option (List ℕ)) (k : Kind) (inner : Bool) → s ≡ None → IsElement k →
    element_by forms.PostfixNode s k inner ≡ true
index_is None k inner z x = ap is_element_kind x.is
index_is (Some name) k inner z x = absurd cc

-- a number is known
number_is : (o : Option plain_kinds.Kind) (k : plain_kinds.Kind) → o ≡ Some k → IsNumber o →
    (of : IntType) × (r : Reach) × (o ≡ Some (kinds.Number of r))
number_is None k e h = absurd (none-some k e)
number_is (Some (kinds.Number of r)) k e h = (of, r, refl)
number_is (Some (kinds.Pointer s i c r j p)) k e h = absurd (false≢true h)
number_is (Some kinds.Nothing) k e h = absurd (false≢true h)

module _ (asked : Asked) (names : Names) (plain form : Env) (alike : Plainly names plain form)
    (give : AllGive asked plain) where
  abbrev leaf_whole : (t : Syntax) → IsExpressionOf true t → NoPoint t → SoundTree asked plain roles.Other (plain_of
      t) →
      (role : Role) → refusals role (marked names t) ≡ [] → LeafOf asked names plain (marked names t)
  leaf_whole t h n so role r = record {
    tree = t;
    marks = refl;
    expression = h;
    points = n;
    role = role;
    refused = r;
    sound = so;
  }

  number_steps : (t : Syntax) → IsExpressionOf true t → NoPoint t → SoundTree asked plain roles.Other (plain_of t) →
      (listed : Bool) (of : IntType) (role : Role) → is_item listed role ≡ true → refusals role (marked names t) ≡ [] →
      (listed && is_comma (form_of t)) ≡ false → is_vector (kind_at (marked names t)) ≡ false →
      AreNumbers asked names plain (Number of (marked names t) ∷ []) →
      Fit asked names plain (Number of (marked names t) ∷ [])
  unfolding marked
  number_steps (node g w f l parts) h n so listed of role i r c v e =
      let t = node g w f l parts in
      let ms = marked_parts g parts (within g w names) true parts in
      let k = known_kind asked t plain roles.Other h give so in
      let z = number_is (kind_of plain (plain_of t)) k.0 k.1 e.0 in (
        record {
          leaf = leaf_whole t h n so role r;
          apart = item_apart listed role t (kind_by names g w ms) ms i c v;
          of = z.0;
          reached = z.1;
          number = z.2;
        },
        tt,
      )

  variable_leaves : (w : List ℕ) (f l : ℕ) → NoPoint (node forms.VariableNode w f l none) →
      is_vector (names (name_in w)) ≡ true →
      Fit asked names plain (variable_steps (mark (node forms.VariableNode w f l none) (names (name_in w)) unmarked))
  variable_leaves w f l n v =
      let x = variable_only (names (name_in w)) (name_in w) plain form (alike.names' (name_in w) n.0) v in
      from_start (LeafFits asked names plain) (Copy (type_in (names (name_in w)))
      (named_by (node forms.VariableNode w f l none))) (count_in (names (name_in w))) (λ c b. record {
        vector = x.0;
        named = x.1;
        within = subst (λ z. c < count_in z) x.1 b;
        source = n.0;
        word = w;
        name = refl;
      })

  element_leaves : (t : Syntax) → IsExpressionOf true t → NoPoint t → SoundTree asked plain roles.Other (plain_of t) →
      (role : Role) → refusals role (marked names t) ≡ [] → IsElement (kind_at (marked names t)) →
      is_element (marked names t) ≡ true → Fit asked names plain (element_steps (marked names t))
  element_leaves t h n so role r x e =
      let small = small_count (kind_at (marked names t))
      (mark_small (marked names t) (marked_small t names (small_names names plain form alike))) in (
        record {
          leaf = leaf_whole t h n so role r;
          vector = x.vector;
          space = x.space;
          constant = x.constant;
          kind = x.is;
          element = e;
        },
        from_start (LeafFits asked names plain) (Load (marked names t)) (count_in (kind_at (marked names t)))
            (λ c b. record {
              vector = x.vector;
              space = x.space;
              constant = x.constant;
              kind = x.is;
              small = omega (arith, b, small);
            }),
      )

  operator_steps : (of : IntType) (t : Syntax) (k : Kind) (o : Option Bin) (a b : Mark) (items lists' : List Step) →
      is_vector (joined_kind o (kind_at a) (kind_at b)) ≡ true → FitsIn asked names plain a →
      FitsIn asked names plain b → refusals (used_in k) a ≡ [] → refusals (used_in k) b ≡ [] →
      let ms = marking a (marking b unmarked) in
      let all = all_steps false (type_in (vector_among ms)) ms in
      AreNumbers asked names plain (steps_by (made_by_operator o) of (mark t k ms) items all lists') →
      Fit asked names plain (steps_by (made_by_operator o) of (mark t k ms) items all lists')
  operator_steps of t k None a b items lists' v x y p q e = absurd (false≢true v)
  operator_steps of t k (Some op) a b items lists' v x y p q e =
      two_parts asked names plain false (type_in (vector_among (marking a (marking b unmarked)))) a b (used_in k)
      (used_in k) x y (inner_item false (used_in k) (used_inner k)) (used_inner k) p q e

  -- behind a prefix: an operator, or an element
  prefix_steps : (of : IntType) (t : Syntax) (k : Kind) (o : Option Prefix) (a : Syntax) (m : Mark)
      (items lists' : List Step) → PrefixOf o a (IsExpressionOf true a) →
      (IsExpressionOf true a → FitsIn asked names plain m) → refusals (operand_role o k m) m ≡ [] →
      (is_element_made (made_by_prefix o) ≡ true → Fit asked names plain (element_steps (mark t k (marking m
      unmarked)))) →
      let ms = marking m unmarked in
      let all = all_steps false (type_in (vector_among ms)) ms in
      AreNumbers asked names plain (steps_by (made_by_prefix o) of (mark t k ms) items all lists') →
      Fit asked names plain (steps_by (made_by_prefix o) of (mark t k ms) items all lists')
  prefix_steps of t k (Some (prefixes.Operator op)) a m items lists' h x r el e =
      one_part asked names plain false (type_in (vector_among (marking m unmarked))) m (used_in k) (x h)
      (inner_item false (used_in k) (used_inner k)) r e
  prefix_steps of t k None a m items lists' h x r el e = absurd h
  prefix_steps of t k (Some prefixes.Content) a m items lists' h x r el e = el refl
  prefix_steps of t k (Some prefixes.Address) a m items lists' h x r el e = el refl
  prefix_steps of t k (Some (prefixes.Step op)) a m items lists' h x r el e = el refl
  prefix_steps of t k (Some prefixes.Size) a m items lists' h x r el e = el refl

  selected_inner : (name : List ℕ) (k : Kind) → is_inner (selected_role (Some name) k) ≡ true
  selected_inner name (Vectors v r) = refl
  selected_inner name (Pointer s c v) = refl
  selected_inner name (Other b) = refl

  -- a selection, or an element
  postfix_steps : (of : IntType) (t : Syntax) (k : Kind) (s : Option (List ℕ)) (m : Mark) (items lists' : List Step) →
      FitsIn asked names plain m → refusals (selected_role s k) m ≡ [] →
      (s ≡ None → Fit asked names plain (element_steps (mark t k (marking m unmarked)))) →
      let ms = marking m unmarked in
      let all = all_steps false (type_in (vector_among ms)) ms in
      AreNumbers asked names plain (steps_by (made_by_selection s) of (mark t k ms) items all lists') →
      Fit asked names plain (steps_by (made_by_selection s) of (mark t k ms) items all lists')
  postfix_steps of t k (Some name) m items lists' x r el e =
      one_part asked names plain false (type_in (vector_among (marking m unmarked))) m (selected_role (Some name) k) x
      (inner_item false (selected_role (Some name) k) (selected_inner name k)) r e
  postfix_steps of t k None m items lists' x r el e = el refl

  indexed_leaves : (of : IntType) (t : Syntax) (m : Mark) (s : Option (List ℕ)) (items all lists' : List Step) → s ≡
      None →
      Fit asked names plain (element_steps m) →
      Fit asked names plain (steps_by (made_by_selection s) of m items all lists')
  indexed_leaves of t m None items all lists' z x = x
  indexed_leaves of t m (Some name) items all lists' z x = absurd cc

  cast_role : (b : Bool) → is_list_role (if b then Listed else Free) ≡ true
  cast_role true = refl
  cast_role false = refl

  all_parts : (ps : Forest) (g : Form) (all : Forest) (ns : Names) (front : Bool) → AreExpressionsOf true ps →
      AllFit asked names plain ps (marked_parts g all ns front ps) → All asked names plain (marked_parts g all ns
      front ps)
  unfolding marked_parts
  all_parts none g all ns front h x = tt
  all_parts (more p ps) g all ns front h x =
      (x.0 h.0, all_parts ps g all (later g all ns front p) false h.1 x.1)

  -- a node that is a vector
  vector_steps : (g : Form) (w : List ℕ) (f l : ℕ) (parts : Forest) → let t = node g w f l parts in
      let ms = marked_parts g parts (within g w names) true parts in
      let k = kind_by names g w ms in
      IsExpressionOf true t → NoPoint t → SoundTree asked plain roles.Other (plain_of t) → (of : IntType)
      (listed : Bool) (role : Role) → is_item listed role ≡ true → refusals role (mark t k ms) ≡ [] →
      (Needs g k → AllFit asked names plain parts ms) → is_vector k ≡ true →
      AreNumbers asked names plain (steps_by (made_in g w) of (mark t k ms) (all_steps true of ms)
      (all_steps false (type_in (vector_among ms)) ms) (list_steps (type_in k) ms)) →
      Fit asked names plain (steps_by (made_in g w) of (mark t k ms) (all_steps true of ms)
      (all_steps false (type_in (vector_among ms)) ms) (list_steps (type_in k) ms))
  unfolding marked marked_parts kind_by made_in role_of is_element list_steps inside_steps
  vector_steps forms.NumberNode w f l none h n so of listed role i r g v e = absurd (false≢true v)
  vector_steps forms.TruthNode w f l none h n so of listed role i r g v e = absurd (false≢true v)
  vector_steps forms.VariableNode w f l none h n so of listed role i r g v e = variable_leaves w f l n v
  vector_steps forms.ParenNode w f l (more a none) h n so of listed role i r g v e =
      let t = node forms.ParenNode w f l (more a none) in
      let m = marked names a in
      one_part asked names plain false (type_in (vector_among (marking m unmarked))) m (paren_role role (kind_at m))
      ((g tt).0 h) (inner_item false (paren_role role (kind_at m)) (paren_item listed role (kind_at m) i))
      (part_none role t (kind_at m) m r) e
  vector_steps forms.ExprNode w f l (more a (more b none)) h n so of listed role i r g v e =
      absurd (false≢true (sym (alone_no_vector (kind_at (marked (behind names a) b))) ∙ v))
  vector_steps forms.AssignNode w f l (more a (more b none)) h n so of listed role i r g v e =
      absurd (false≢true (sym (alone_no_vector (kind_at (marked names a))) ∙ v))
  vector_steps forms.CondNode w f l (more a (more b (more d none))) h n so of listed role i r g v e = absurd
      (false≢true v)
  vector_steps forms.OrNode w f l (more a (more b none)) h n so of listed role i r g v e = absurd (false≢true v)
  vector_steps forms.AndNode w f l (more a (more b none)) h n so of listed role i r g v e = absurd (false≢true v)
  vector_steps forms.BorNode w f l (more a (more b none)) h n so of listed role i r g v e =
      let t = node forms.BorNode w f l (more a (more b none)) in
      let m = marked names a in
      let m' = marked (behind names a) b in
      let ms = marking m (marking m' unmarked) in
      let k = kind_at (marked names t) in
      let x = two_none role t k m m' r in
      operator_steps of t k (binary_in w) m m' (all_steps true of ms) (list_steps (type_in k) ms) v ((g tt).0 h.1)
      ((g tt).1.0 h.2) x.0 x.1 e
  vector_steps forms.BxorNode w f l (more a (more b none)) h n so of listed role i r g v e =
      let t = node forms.BxorNode w f l (more a (more b none)) in
      let m = marked names a in
      let m' = marked (behind names a) b in
      let ms = marking m (marking m' unmarked) in
      let k = kind_at (marked names t) in
      let x = two_none role t k m m' r in
      operator_steps of t k (binary_in w) m m' (all_steps true of ms) (list_steps (type_in k) ms) v ((g tt).0 h.1)
      ((g tt).1.0 h.2) x.0 x.1 e
  vector_steps forms.BandNode w f l (more a (more b none)) h n so of listed role i r g v e =
      let t = node forms.BandNode w f l (more a (more b none)) in
      let m = marked names a in
      let m' = marked (behind names a) b in
      let ms = marking m (marking m' unmarked) in
      let k = kind_at (marked names t) in
      let x = two_none role t k m m' r in
      operator_steps of t k (binary_in w) m m' (all_steps true of ms) (list_steps (type_in k) ms) v ((g tt).0 h.1)
      ((g tt).1.0 h.2) x.0 x.1 e
  vector_steps forms.EqualNode w f l (more a (more b none)) h n so of listed role i r g v e =
      let t = node forms.EqualNode w f l (more a (more b none)) in
      let m = marked names a in
      let m' = marked (behind names a) b in
      let ms = marking m (marking m' unmarked) in
      let k = kind_at (marked names t) in
      let x = two_none role t k m m' r in
      operator_steps of t k (binary_in w) m m' (all_steps true of ms) (list_steps (type_in k) ms) v ((g tt).0 h.1)
      ((g tt).1.0 h.2) x.0 x.1 e
  vector_steps forms.OrderNode w f l (more a (more b none)) h n so of listed role i r g v e =
      let t = node forms.OrderNode w f l (more a (more b none)) in
      let m = marked names a in
      let m' = marked (behind names a) b in
      let ms = marking m (marking m' unmarked) in
      let k = kind_at (marked names t) in
      let x = two_none role t k m m' r in
      operator_steps of t k (binary_in w) m m' (all_steps true of ms) (list_steps (type_in k) ms) v ((g tt).0 h.1)
      ((g tt).1.0 h.2) x.0 x.1 e
  vector_steps forms.ShiftNode w f l (more a (more b none)) h n so of listed role i r g v e =
      let t = node forms.ShiftNode w f l (more a (more b none)) in
      let m = marked names a in
      let m' = marked (behind names a) b in
      let ms = marking m (marking m' unmarked) in
      let k = kind_at (marked names t) in
      let x = two_none role t k m m' r in
      operator_steps of t k (binary_in w) m m' (all_steps true of ms) (list_steps (type_in k) ms) v ((g tt).0 h.1)
      ((g tt).1.0 h.2) x.0 x.1 e
  vector_steps forms.SumNode w f l (more a (more b none)) h n so of listed role i r g v e =
      let t = node forms.SumNode w f l (more a (more b none)) in
      let m = marked names a in
      let m' = marked (behind names a) b in
      let ms = marking m (marking m' unmarked) in
      let k = kind_at (marked names t) in
      let x = two_none role t k m m' r in
      operator_steps of t k (binary_in w) m m' (all_steps true of ms) (list_steps (type_in k) ms) v ((g tt).0 h.1)
      ((g tt).1.0 h.2) x.0 x.1 e
  vector_steps forms.TermNode w f l (more a (more b none)) h n so of listed role i r g v e =
      let t = node forms.TermNode w f l (more a (more b none)) in
      let m = marked names a in
      let m' = marked (behind names a) b in
      let ms = marking m (marking m' unmarked) in
      let k = kind_at (marked names t) in
      let x = two_none role t k m m' r in
      operator_steps of t k (binary_in w) m m' (all_steps true of ms) (list_steps (type_in k) ms) v ((g tt).0 h.1)
      ((g tt).1.0 h.2) x.0 x.1 e
  vector_steps forms.UnaryNode w f l (more a none) h n so of listed role i r g v e =
      let t = node forms.UnaryNode w f l (more a none) in
      let m = marked names a in
      let k = kind_at (marked names t) in
      prefix_steps of t k (prefix_in w) a m (all_steps true of (marking m unmarked))
      (list_steps (type_in k) (marking m unmarked)) h (g tt).0 (part_none role t k m r)
      (λ z. let x = prefixed_element (prefix_in w) (kind_at m) z v in
      element_leaves t h n so role r x (ap is_element_kind x.is)) e
  vector_steps forms.PostfixNode w f l (more a none) h n so of listed role i r g v e =
      let t = node forms.PostfixNode w f l (more a none) in
      let m = marked names a in
      let k = kind_at (marked names t) in
      postfix_steps of t k (selection_in w) m (all_steps true of (marking m unmarked))
      (list_steps (type_in k) (marking m unmarked)) ((g tt).0 (postfix_part w (IsExpressionOf true a) h))
      (part_none role t k m r) (λ z. let x = index_element (selection_in w) (postfix_in w) (kind_at m) z v in
      element_leaves t h n so role r x (index_is (selection_in w) k (is_element m) z x)) e
  vector_steps forms.PostfixNode w f l (more a (more b none)) h n so of listed role i r g v e =
      let t = node forms.PostfixNode w f l (more a (more b none)) in
      let m = marked names a in
      let ms = marking m (marking (marked (behind names a) b) unmarked) in
      let k = kind_at (marked names t) in
      let z = unpointed_selection w (postfix_unpointed w (indexes_some (postfix_in w) h.0)) in
      let x = index_element (selection_in w) (postfix_in w) (kind_at m) z v in
      indexed_leaves of t (mark t k ms) (selection_in w) (all_steps true of ms)
      (all_steps false (type_in (vector_among ms)) ms) (list_steps (type_in k) ms) z
      (element_leaves t h n so role r x (index_is (selection_in w) k (is_element m) z x))
  vector_steps forms.CallNode w f l parts h n so of listed role i r g v e =
      let t = node forms.CallNode w f l parts in
      let inner = within forms.CallNode w names in
      let ms = marked_parts forms.CallNode parts inner true parts in
      let k = kind_at (marked names t) in
      every_part asked names plain (type_in (vector_among ms)) (used_in k) ms
      (all_parts parts forms.CallNode parts inner true h (g v)) (used_inner k)
      (all_none role (used_in k) (mark t k ms) true ms (λ x y q. refl) (node_none role t k ms r).0) e
  vector_steps forms.CastNode w f l (more (node forms.TypeNode tw tf tl tps) (more a none)) h n so of listed role i r
      g v
      e =
      let type = node forms.TypeNode tw tf tl tps in
      let t = node forms.CastNode w f l (more type (more a none)) in
      let p = marked names a in
      let k = kind_at (marked names t) in
      let ms = marking (marked names type) (marking p unmarked) in
      let x = two_none role t k (marked names type) p r in
      let y = each_split (IsNumberLeaf plain) (inside_steps (type_in k) p) [] e in
      each_append (LeafFits asked names plain) (inside_steps (type_in k) p) []
      (((g tt).1.0 h.1).inside' (type_in k) (if is_list_cast ms then Listed else Free) (cast_role (is_list_cast ms)) x.1
      y.0) tt
  vector_steps forms.CastNode w f l (more t (more a none)) h n so of listed role i r g v e = absurd h.0
  vector_steps g w f l parts h n so of listed role i r c v e = absurd h

  -- ---- nodes

  abbrev NodeMark : Form → List ℕ → ℕ → ℕ → Forest → Mark
  NodeMark g w f l parts = mark (node g w f l parts) (kind_by names g w (marked_parts g parts (within g w names) true parts))
      (marked_parts g parts (within g w names) true parts)

  -- items of a list, each where it is
  items_steps : (g : Form) (w : List ℕ) (f l : ℕ) (parts : Forest) → IsExpressionOf true (node g w f l parts) →
      (of : IntType) (role : Role) → is_item true role ≡ true → refusals role (NodeMark g w f l parts) ≡ [] →
      (Needs g (kind_by names g w (marked_parts g parts (within g w names) true parts)) →
      AllFit asked names plain parts (marked_parts g parts (within g w names) true parts)) → is_comma g ≡ true →
      AreNumbers asked names plain (all_steps true of (marked_parts g parts (within g w names) true parts)) →
      Fit asked names plain (all_steps true of (marked_parts g parts (within g w names) true parts))
  unfolding marked_parts role_of
  items_steps forms.ExprNode w f l (more a (more b none)) h of role i r g c e =
      let t = node forms.ExprNode w f l (more a (more b none)) in
      let m = marked names a in
      let m' = marked (behind names a) b in
      let k = kind_by names forms.ExprNode w (marking m (marking m' unmarked)) in
      let x = two_none role t k m m' r in
      two_parts asked names plain true of m m' (item_role role true) (item_role role false) ((g tt).0 h.0)
      ((g tt).1.0 h.1) (front_item role) (other_item role) x.0 x.1 e
    where
      front_item : (q : Role) → is_item true (item_role q true) ≡ true
      front_item Items = refl
      front_item q = refl

      other_item : (q : Role) → is_inner (item_role q false) ≡ true
      other_item Items = refl
      other_item q = refl
  items_steps forms.ExprNode w f l parts h of role i r g c e = absurd h
  items_steps g w f l parts h of role i r x c e = absurd (false≢true c)

  -- a list in parentheses
  list_in : (g : Form) (w : List ℕ) (f l : ℕ) (parts : Forest) → IsExpressionOf true (node g w f l parts) →
      (of : IntType) (role : Role) → is_list_role role ≡ true → refusals role (NodeMark g w f l parts) ≡ [] →
      (Needs g (kind_by names g w (marked_parts g parts (within g w names) true parts)) →
      AllFit asked names plain parts (marked_parts g parts (within g w names) true parts)) →
      AreNumbers asked names plain (inside_steps of (NodeMark g w f l parts)) →
      Fit asked names plain (inside_steps of (NodeMark g w f l parts))
  unfolding marked_parts role_of inside_steps kind_by
  list_in forms.ParenNode w f l (more a none) h of role i r g e =
      let t = node forms.ParenNode w f l (more a none) in
      let m = marked names a in
      one_part asked names plain true of m (paren_role role (kind_at m)) ((g tt).0 h)
      (by role (kind_at m) i) (part_none role t (kind_at m) m r) e
    where
      by : (q : Role) (k : Kind) → is_list_role q ≡ true → is_item true (paren_role q k) ≡ true
      by Listed k j = refl
      by Free k j = inner_item true (paren_role Free k) (used_inner k)
      by Used k j = inner_item true (paren_role Used k) (used_inner k)
      by Base k j = inner_item true (paren_role Base k) (used_inner k)
      by Target k j = inner_item true (paren_role Target k) (paren_item false Target k refl)
      by Items k j = absurd (false≢true j)
      by q k j = inner_item true (paren_role q k) (used_inner k)
  list_in forms.ParenNode w f l parts h of role i r g e = absurd h
  list_in g w f l parts h of role i r x e = tt

  node_fits : (g : Form) (w : List ℕ) (f l : ℕ) (parts : Forest) → IsExpressionOf true (node g w f l parts) →
      NoPoint (node g w f l parts) → SoundTree asked plain roles.Other (plain_of (node g w f l parts)) →
      (Needs g (kind_by names g w (marked_parts g parts (within g w names) true parts)) →
      AllFit asked names plain parts (marked_parts g parts (within g w names) true parts)) →
      FitsIn asked names plain (NodeMark g w f l parts)
  unfolding marked steps_in
  node_fits g w f l parts h n so x =
      let t = node g w f l parts in
      let ms = marked_parts g parts (within g w names) true parts in
      let k = kind_by names g w ms in record {
        steps = λ listed of role i r. node_steps asked names plain listed of t k ms (all_steps true of ms)
            (all_steps false (type_in (vector_among ms)) ms) (list_steps (type_in k) ms)
            (λ c z. items_steps g w f l parts h of role (subst (λ b. is_item b role ≡ true) z i) r x c)
            (λ v. vector_steps g w f l parts h n so of listed role i r x v)
            (λ c v. number_steps t h n so listed of role i r c v);
        inside' = λ of role i r. list_in g w f l parts h of role i r x;
      }

-- ---- by the tree

later_same : (form : Form) (all : Forest) (names : Names) (front : Bool) (p : Syntax) → is_expression form ≡ true →
    IsType p ⊎ IsExpressionOf true p → later form all names front p ≡ names
later_same forms.DeclareNode all names front p h i = absurd (false≢true h)
later_same form all names front p h (inr i) = expression_names names p i
later_same form all names front (node forms.TypeNode w f l parts) h (inl i) = refl
later_same form all names front p h (inl i) = absurd i

call_is : (o : Option Intrinsic) (z : Kind) → is_vector (called_kind o z) ≡ true →
    (f : Fun) × (o ≡ Some (intrinsics.Function f))
call_is (Some (intrinsics.Function f)) (Vectors v r) h = (f, refl)
call_is o z h = absurd (false≢true h)

-- a call that is a vector is none of a fence
function_within : (w : List ℕ) (names : Names) (z : Kind) →
    is_vector (called_kind (intrinsic_in (name_in w)) z) ≡ true → within forms.CallNode w names ≡ names
function_within w names z v = ap (λ o. if calls_fence o then with_fences names else names)
    (call_is (intrinsic_in (name_in w)) z v).1

callee_is : (o : Option Callee) → not (is_some o) ≡ false → (c : Callee) × (o ≡ Some c)
callee_is None h = absurd (false≢true (sym h))
callee_is (Some c) h = (c, refl)

-- in the arguments of such a call the same is visible
arguments_same : (plain : Env) (q : List ℕ) (f : Fun) → plain.flags ≡ false →
    callee_of plain q ≡ Some (known (intrinsics.Function f)) → in_arguments plain q ≡ plain
arguments_same plain q f n c =
    ap (λ z. record plain { flags = is_fence_callee z }) c ∙ ap (λ z. record plain { flags = z }) (sym n)

module _ (asked : Asked) (names : Names) (plain form : Env) (alike : Plainly names plain form)
    (give : AllGive asked plain) (alone : KnownAlone plain) (unflagged : plain.flags ≡ false) where
  call_parts : (w : List ℕ) (f l : ℕ) (parts : Forest) (z : Kind) → AreExpressionsOf true parts →
      SoundTree asked plain roles.Other (node forms.CallNode w f l (plains_of parts)) →
      is_vector (called_kind (intrinsic_in (name_in w)) z) ≡ true → SoundHere asked plain (plains_of parts)
  call_parts w f l parts z h so v =
      let here = call_here asked plain roles.Other w f l (plains_of parts) (plains_made parts h) so in
      let fun = call_is (intrinsic_in (name_in w)) z v in
      let c = callee_is (callee_of plain (name_in w)) here.1 in
      let is = alone (name_in w) (intrinsics.Function fun.0) c.0 fun.1 c.1 in
      subst (λ e. SoundHere asked e (plains_of parts))
      (arguments_same plain (name_in w) fun.0 unflagged (c.1 ∙ ap Some is)) here.0

  postfix_parts : (w : List ℕ) (f l : ℕ) (a : Syntax) (b : Bool) → IsExpressionOf true a →
      SoundTree asked plain roles.Other (if b then plain_of a else node forms.PostfixNode w f l (forest1 (plain_of
      a))) →
      SoundTree asked plain roles.Other (plain_of a)
  postfix_parts w f l a true h so = so
  postfix_parts w f l a false h so = (plain_here asked plain roles.Other forms.PostfixNode w f l (forest1 (plain_of a))
      refl refl (inl (plain_made a h), tt) so).0

  mutual
    unfolding marked marked_parts plain_of plains_of kind_by

    -- an expression of which nothing is refused
    pub fits_in : (t : Syntax) → IsExpressionOf true t → NoPoint t → SoundTree asked plain roles.Other (plain_of t) →
        FitsIn asked names plain (marked names t)
    fits_in (node forms.PostfixNode w f l (more a none)) h n so =
        let e = postfix_part w (IsExpressionOf true a) h in
        node_fits asked names plain form alike give forms.PostfixNode w f l (more a none) h n so
        (λ x. (λ y. fits_in a e n.1.0 (postfix_parts w f l a (is_pointed w) e so), tt))
    fits_in (node forms.CallNode w f l parts) h n so =
        let inner = within forms.CallNode w names in
        let among = vector_among (marked_parts forms.CallNode parts inner true parts) in
        node_fits asked names plain form alike give forms.CallNode w f l parts h n so
        (λ v. subst (λ z. AllFit asked names plain parts (marked_parts forms.CallNode parts z true parts))
        (sym (function_within w names among v)) (all_fits parts forms.CallNode parts true refl
        (expressions_operands parts h) n.1 (call_parts w f l parts among h so v)))
    fits_in (node forms.TypeNode w f l parts) h n so = absurd h
    fits_in (node g w f l parts) h n so =
        let e = expression_form (node g w f l parts) h in
        let o = operands_are (node g w f l parts) h in
        node_fits asked names plain form alike give g w f l parts h n so (λ x. all_fits parts g parts true e o n.1
        (plain_here asked plain roles.Other g w f l (plains_of parts) e refl (operands_made parts o) so))

    all_fits : (ps : Forest) (g : Form) (all : Forest) (front : Bool) → is_expression g ≡ true → AreTypesOr ps →
        NoPoints ps → SoundHere asked plain (plains_of ps) → AllFit asked names plain ps (marked_parts g all names
        front ps)
    all_fits none g all front e h n so = tt
    all_fits (more p ps) g all front e h n so = (
      λ i. fits_in p i n.0 so.0,
      subst (λ z. AllFit asked names plain ps (marked_parts g all z false ps)) (sym (later_same g all names front p e
          h.0))
          (all_fits ps g all false e h.1 n.1 so.1),
    )
