-- Operands of an expression: before and behind one, and in a call.
use Rattle.std.proofs.Common.{◌≡◌, ℕ, ◌≤◌, List, [], ◌∷◌, Option, None, Some, Bool, true, false, if◌then◌else◌, refl}
use Rattle.std.proofs.Common.{ap, sym}
use Rattle.std.proofs.Common.{◌∙◌, subst, inl}
use Rattle.std.proofs.lemmas.Bool.{false≢true}
use Rattle.cl_tree.specs.declared.tree.Form.{Form}
use Rattle.cl_tree.specs.declared.tree.Form.TheVariants as forms
use Rattle.cl_tree.specs.Syntax.{Syntax, node, Forest, none, more}
use Rattle.cl_tree.specs.Nodes.{forest1, forest2}
use Rattle.cl_meaning.specs.Spelling.{name_in, prefix_in, postfix_in, literal_in}
use Rattle.cl_meaning.specs.declared.operators.Prefix.{Prefix}
use Rattle.cl_meaning.specs.declared.operators.Prefix.TheVariants as prefixes
use Rattle.cl_meaning.specs.declared.operators.Postfix.{Postfix}
use Rattle.cl_meaning.specs.declared.operators.Postfix.TheVariants as postfixes
use Rattle.cl_meaning.specs.declared.names.Intrinsic.{Intrinsic}
use Rattle.cl_meaning.specs.declared.names.Intrinsic.TheVariants as intrinsics
use Rattle.cl_meaning.specs.declared.kind.Kind.{Kind}
use Rattle.cl_meaning.specs.declared.kind.Role.{Role}
use Rattle.cl_meaning.specs.declared.kind.Role.TheVariants as roles
use Rattle.cl_meaning.specs.Environment.{Env}
use Rattle.cl_meaning.specs.Kinds.{is_some, name_kind, literal_kind, number, kind_step, are_flags_alone}
use Rattle.cl_meaning.specs.Faults.{Asked}
use Rattle.wg_num.specs.declared.types.IntType.TheVariants as types
use Rattle.cl_check_sound.specs.Shape.{IsType, PrefixOf, IsExpressionOf, AreExpressionsOf}
use Rattle.cl_check_sound.specs.Shape.{is_expression, indexes}
use Rattle.cl_check_sound.specs.Sound.{SoundTree}
use Rattle.cl_check_sound.proofs.Cases.{the_some}
use Rattle.cl_check_sound.proofs.Plain.{kinds_here}
use Rattle.cl_short_vec.specs.declared.types.Vector.{Vector}
use Rattle.cl_short_vec.specs.declared.kinds.Reach.TheVariants.{Value, Variable, Element}
use Rattle.cl_short_vec.specs.declared.kinds.Kind as vectors
use Rattle.cl_short_vec.specs.declared.kinds.Kind.TheVariants.{Vectors, Pointer, Other}
use Rattle.cl_short_vec.specs.declared.roles.Role as vector_roles
use Rattle.cl_short_vec.specs.declared.roles.Role.TheVariants.{Free, Used}
use Rattle.cl_short_vec.specs.Types.{vector_type, selection_in}
use Rattle.cl_short_vec.specs.Kinds.{Names, is_vector, prefix_kind, postfix_kind, selection_of, called_kind, cast_kind}
use Rattle.cl_short_vec.specs.Kinds.{behind}
use Rattle.cl_short_vec.specs.Marks.{mark, Marks, unmarked, marking, tree_at, kind_at, kind_by, marked}
use Rattle.cl_short_vec.specs.Marks.{marked_parts}
use Rattle.cl_short_vec.specs.Roles.{is_place, is_element, is_element_kind, element_by, operand_role}
use Rattle.cl_short_vec.specs.Faults.{refusals}
use Rattle.cl_short_vec.specs.Scalar.{prefixed, two_by, one_selected, chosen_or, scalar, scalars}
use Rattle.cl_short_vec.proofs.Small.{SmallKind, SmallNames}
use Rattle.cl_short_vec_faults.specs.PlainForm.{plain_of, plains_of}
use Rattle.cl_short_vec_faults.specs.Plainly.{has_point, NoPoints, width_in, Plainly}
use Rattle.cl_short_vec_faults.specs.Law.{KindAs}
use Rattle.cl_short_vec_faults.proofs.Unchanged.{NameSame, FrontSame, FlagsSame, fine_same, step_same}
use Rattle.cl_short_vec_faults.proofs.Known.{not_false}
use Rattle.cl_short_vec_faults.proofs.Naming.{variable_same}
use Rattle.cl_short_vec_faults.proofs.Nodes.{is_call, leaf_good}
use Rattle.cl_short_vec_faults.proofs.Refused.{AllStay, type_placed, used_free, free_no_vector}
use Rattle.cl_short_vec_faults.proofs.Claims.{Has, plain_fine, plain_step}
use Rattle.cl_short_vec_faults.proofs.Prefixes.{type_kept, size_claim}
use Rattle.cl_short_vec_faults.proofs.Steps.{sign_claim, content_claim, address_claim, before_claim}
use Rattle.cl_short_vec_faults.proofs.Elements.{index_claim}
use Rattle.cl_short_vec_faults.proofs.Calling.{AllHave}
use Rattle.cl_short_vec_faults.proofs.Placing.{Placed}

-- ---- names

small_width : (k : vectors.Kind) → width_in k ≤ 16 → SmallKind k
small_width (Vectors v r) h = h
small_width (Pointer s c v) h = h
small_width (Other b) h = tt

pub small_names : (names : Names) (p s : Env) → Plainly names p s → SmallNames names
small_names names p s h q = small_width (names q) (h.narrow q)

-- ---- leaves

pub leaf_claim : (asked : Asked) (p s : Env) (place : Role) (form : Form) (w : List ℕ) (f l : ℕ) (j : vectors.Kind)
    (k : Kind) (e : is_expression form ≡ true) (c : is_call form ≡ false) → s.owner ≡ p.owner → NameSame p s form w →
    FrontSame form none none → FlagsSame form none none → SoundTree asked p place (node form w f l none) →
    kind_step p form w none [] ≡ Some k → KindAs j (Some k) →
    Has asked p s place j (node form w f l none) (node form w f l none)
leaf_claim asked p s place form w f l j k e c ow n t g so st a = record {
  made = (e, tt);
  kind = k;
  plain = plain_step asked p place form w f l none e c tt so [] refl ∙ st;
  as' = a;
  good = leaf_good asked s place form w f l k e c (fine_same form e asked p s place w f none none [] n ow t g
      (plain_fine asked p place form w f l none e c tt so [] refl)) (step_same form p s w none none [] n t ∙ st);
}

pub number_claim : (asked : Asked) (p s : Env) (place : Role) (w : List ℕ) (f l : ℕ) → s.owner ≡ p.owner →
    is_some (literal_in w) ≡ true → SoundTree asked p place (node forms.NumberNode w f l none) →
    Has asked p s place (Other true) (node forms.NumberNode w f l none) (node forms.NumberNode w f l none)
unfolding kind_step
number_claim asked p s place w f l ow h so =
    let k = the_some (literal_in w) h in
    leaf_claim asked p s place forms.NumberNode w f l (Other true) (number k.0.0) refl refl ow tt tt tt so
    (ap literal_kind
    k.1)
    tt

pub truth_claim : (asked : Asked) (p s : Env) (place : Role) (w : List ℕ) (f l : ℕ) → s.owner ≡ p.owner →
    SoundTree asked p place (node forms.TruthNode w f l none) →
    Has asked p s place (Other true) (node forms.TruthNode w f l none) (node forms.TruthNode w f l none)
unfolding kind_step
truth_claim asked p s place w f l ow so =
    leaf_claim asked p s place forms.TruthNode w f l (Other true) (number types.Int) refl refl ow tt tt tt so refl tt

pub variable_claim : (asked : Asked) (p s : Env) (names : Names) (place : Role) (w : List ℕ) (f l : ℕ) →
    Plainly names p s → has_point (name_in w) ≡ false → is_vector (names (name_in w)) ≡ false →
    SoundTree asked p place (node forms.VariableNode w f l none) →
    Has asked p s place (names (name_in w)) (node forms.VariableNode w f l none) (node forms.VariableNode w f l none)
unfolding kind_step
variable_claim asked p s names place w f l pl n v so =
    let q = name_in w in
    let x = variable_same names p s q pl n v in
    let fine = plain_fine asked p place forms.VariableNode w f l none refl refl tt so [] refl in
    let k = the_some (name_kind p q) (not_false (is_some (name_kind p q)) fine.known) in
    leaf_claim asked p s place forms.VariableNode w f l (names q) k.0 refl refl pl.owner x.0 tt tt so k.1
    (subst (λ z. KindAs (names q) z) k.1 x.1)

-- ---- elements

element_kind_place : (k : vectors.Kind) → is_element_kind k ≡ true → is_place k ≡ true
element_kind_place (Vectors v (Element s c)) h = refl
element_kind_place (Vectors v Value) h = absurd (false≢true h)
element_kind_place (Vectors v Variable) h = absurd (false≢true h)
element_kind_place (Pointer s c v) h = absurd (false≢true h)
element_kind_place (Other y) h = absurd (false≢true h)

postfix_element : (o : Option (List ℕ)) (k : vectors.Kind) (b : Bool) →
    element_by forms.PostfixNode o k b ≡ true → is_place k ≡ true
postfix_element None k b h = element_kind_place k h
postfix_element (Some name) k b h = absurd (false≢true h)

pub element_is_place : (t : Syntax) (names : Names) → is_element (marked names t) ≡ true →
    is_place (kind_at (marked names t)) ≡ true
unfolding is_element marked marked_parts kind_by
element_is_place (node form w f l none) names h = absurd (false≢true h)
element_is_place (node forms.ParenNode w f l (more a as')) names h = element_is_place a names h
element_is_place (node forms.PostfixNode w f l (more a as')) names h = postfix_element (selection_in w)
    (kind_at (marked names (node forms.PostfixNode w f l (more a as')))) (is_element (marked names a)) h
element_is_place (node form w f l (more a as')) names h =
    element_kind_place (kind_at (marked names (node form w f l (more a as')))) h

-- ---- before one operand

pub type_no_vector : (t : Syntax) (names : Names) → IsType t → refusals Free (marked names t) ≡ [] →
    vector_type t ≡ None
type_no_vector (node forms.TypeNode w f l none) names h r = type_placed w f l none names r
type_no_vector (node forms.TypeNode w f l (more (node forms.SpaceNode w' f' l' none) none)) names h r =
    type_placed w f l (more (node forms.SpaceNode w' f' l' none) none) names r
type_no_vector t names h r = absurd h

module _ (asked : Asked) (p s : Env) (names : Names) (place : Role) (w : List ℕ) (f l : ℕ) (a : Syntax)
    (ow : s.owner ≡ p.owner) (so : SoundTree asked p place (node forms.UnaryNode w f l (forest1 (plain_of a))))
    (small : SmallKind (kind_at (marked names a)))
    (rec : IsExpressionOf true a → refusals Free (marked names a) ≡ [] →
    Has asked p s roles.Other (kind_at (marked names a)) (plain_of a) (scalar (marked names a)))
    (recp : IsExpressionOf true a → (q : vector_roles.Role) → refusals q (marked names a) ≡ [] →
    is_place (kind_at (marked names a)) ≡ true → Placed asked p s (marked names a) (plain_of a)) where
  -- the operand of an address
  address_operand : IsExpressionOf true a → (b : Bool) → is_element (marked names a) ≡ b →
      refusals (if b then Used else Free) (marked names a) ≡ [] →
      Has asked p s roles.Other (kind_at (marked names a)) (plain_of a) (scalar (marked names a))
  address_operand h true e r = let x = recp h Used r (element_is_place a names e) in record {
    made = x.made;
    kind = x.kind;
    plain = x.plain;
    as' = x.as';
    good = x.element e roles.Other;
  }
  address_operand h false e r = rec h r

  pub unary_claim : (o : Option Prefix) → prefix_in w ≡ o → PrefixOf o a (IsExpressionOf true a) →
      refusals (operand_role o (prefix_kind o (kind_at (marked names a))) (marked names a)) (marked names a) ≡ [] →
      is_vector (prefix_kind o (kind_at (marked names a))) ≡ false →
      Has asked p s place (prefix_kind o (kind_at (marked names a)))
      (node forms.UnaryNode w f l (forest1 (plain_of a)))
      (prefixed o (kind_at (marked names a)) (node forms.UnaryNode w f l (forest1 a)) (scalar (marked names a)))
  unary_claim None e h r v = absurd h
  unary_claim (Some prefixes.Size) e h r v =
      let k = type_kept a names h (type_no_vector a names h r) in
      subst (λ z. Has asked p s place (Other true) (node forms.UnaryNode w f l (forest1 z))
      (node forms.UnaryNode w f l (forest1 (scalar (marked names a))))) (sym k.1)
      (subst (λ z. Has asked p s place (Other true) (node forms.UnaryNode w f l (forest1 a))
      (node forms.UnaryNode w f l (forest1 z))) (sym k.0) (size_claim asked p s place w f l a h
      (subst (λ z. SoundTree asked p place (node forms.UnaryNode w f l (forest1 z))) k.1 so) e ow))
  unary_claim (Some (prefixes.Operator op)) e h r v =
      let free = subst (λ z. refusals z (marked names a) ≡ [])
      (used_free (prefix_kind (Some (prefixes.Operator op)) (kind_at (marked names a))) v) r in
      sign_claim asked p s place w f l (forest1 a) (plain_of a) (scalar (marked names a)) ow (kind_at (marked names
      a)) op
      (rec h free) so e (free_no_vector a names h free)
  unary_claim (Some prefixes.Content) e h r v = content_claim asked p s place w f l (forest1 a) (plain_of a)
      (scalar (marked names a)) ow (kind_at (marked names a)) (rec h r) so e v
  unary_claim (Some prefixes.Address) e h r v = address_claim asked p s place w f l (forest1 a) (plain_of a)
      (scalar (marked names a)) ow (kind_at (marked names a)) (address_operand h (is_element (marked names a)) refl r)
      so
      e
  unary_claim (Some (prefixes.Step op)) e h r v = before_claim asked p s place w f l (forest1 a) (plain_of a)
      (scalar (marked names a)) ow (kind_at (marked names a)) op (rec h r) so e small

-- ---- behind one operand

module _ (asked : Asked) (p s : Env) (place : Role) (q : Option Postfix) (j : vectors.Kind) (cs : List ℕ)
    (g : ℕ → Syntax) (x n y z : Syntax) where
  -- of a step
  pub behind_step : (b : Bool) (o : Option (List ℕ)) → b ≡ false → o ≡ None →
      Has asked p s place (postfix_kind None q j) n z →
      Has asked p s place (postfix_kind o q j) (if b then x else n)
      (chosen_or (one_selected forms.PostfixNode o cs) g (if b then y else z))
  behind_step false None e d h = h
  behind_step true o e d h = absurd (false≢true (sym e))
  behind_step false (Some name) e d h = absurd (false≢true (sym (ap is_some d)))

  -- of a selection of one component
  pub behind_selection : (b : Bool) (o : Option (List ℕ)) (name : List ℕ) (c : ℕ) → b ≡ true → o ≡ Some name →
      one_selected forms.PostfixNode o cs ≡ Some c → selection_of j name ≡ (Other true) →
      Has asked p s place (Other true) x (g c) →
      Has asked p s place (postfix_kind o q j) (if b then x else n)
      (chosen_or (one_selected forms.PostfixNode o cs) g (if b then y else z))
  behind_selection true o name c e d i k h =
      subst (λ r. Has asked p s place (postfix_kind o q j) x (chosen_or r g y)) (sym i)
      (subst (λ r. Has asked p s place (postfix_kind r q j) x (g c)) (sym d)
      (subst (λ r. Has asked p s place r x (g c)) (sym k) h))
  behind_selection false o name c e d i k h = absurd (false≢true e)

-- ---- calls and casts

pub called_other : (i : Option Intrinsic) (k : vectors.Kind) → is_vector (called_kind i k) ≡ false →
    called_kind i k ≡ (Other true)
called_other (Some (intrinsics.Function g)) (Vectors v r) h = absurd (false≢true (sym h))
called_other i k h = refl

pub cast_other : (o : Option Vector) → is_vector (cast_kind o) ≡ false → o ≡ None
cast_other None h = refl
cast_other (Some v) h = absurd (false≢true (sym h))

pub tree_marked : (t : Syntax) (names : Names) → tree_at (marked names t) ≡ t
unfolding marked
tree_marked (node form w f l parts) names = refl

pub scalar_call : (w : List ℕ) (f l : ℕ) (ps : Forest) (k : vectors.Kind) (ms : Marks) →
    scalar (mark (node forms.CallNode w f l ps) k ms) ≡ node forms.CallNode w f l (scalars ms)
unfolding scalar scalars
scalar_call w f l ps k unmarked = refl
scalar_call w f l ps k (marking a unmarked) = refl
scalar_call w f l ps k (marking a (marking b unmarked)) = refl
scalar_call w f l ps k (marking a (marking b (marking c ms))) = refl

-- one argument more
pub one_more : (asked : Asked) (p s : Env) (t u : Syntax) (P S : Forest) (j : vectors.Kind) →
    Has asked p s roles.Other j t u → AllHave asked p s P S → AllHave asked p s (more t P) (more u S)
one_more asked p s t u P S j x xs = record {
  kinds' = x.kind ∷ xs.kinds';
  plain_made = (inl x.made, xs.plain_made);
  made = (inl x.good.made, xs.made);
  plain = ap (λ z. z ∷ kinds_here p P) x.plain ∙ ap (λ z. Some x.kind ∷ z) xs.plain;
  form = ap (λ z. z ∷ kinds_here s S) x.good.kind ∙ ap (λ z. Some x.kind ∷ z) xs.form;
  sound = (x.good.sound, xs.sound);
}

-- a type leaves what names stand for
pub behind_type : (names : Names) (t : Syntax) → IsType t → behind names t ≡ names
behind_type names (node forms.TypeNode w f l none) h = refl
behind_type names (node forms.TypeNode w f l (more (node forms.SpaceNode w' f' l' none) none)) h = refl
behind_type names t h = absurd h

-- an element of what points to no vectors
pub index_other : (asked : Asked) (p s : Env) (place : Role) (w : List ℕ) (f l : ℕ) (ps : Forest)
    (ja jb : vectors.Kind) (ta tb ua ub : Syntax) (o : Option (List ℕ)) → indexes (postfix_in w) ≡ true → o ≡ None →
    is_vector (postfix_kind o (postfix_in w) ja) ≡ false → s.owner ≡ p.owner → Has asked p s roles.Other ja ta ua →
    Has asked p s roles.Other jb tb ub → SoundTree asked p place (node forms.PostfixNode w f l (forest2 ta tb)) →
    Has asked p s place (postfix_kind o (postfix_in w) ja) (node forms.PostfixNode w f l (forest2 ta tb))
    (two_by forms.PostfixNode ja jb (node forms.PostfixNode w f l ps) ua ub)
index_other asked p s place w f l ps ja jb ta tb ua ub (Some name) i d v ow x y so =
    absurd (false≢true (sym (ap is_some d)))
index_other asked p s place w f l ps ja jb ta tb ua ub None i d v ow x y so = by ja (postfix_in w) i v x
  where
    other : (known : Bool) (j : vectors.Kind) → Has asked p s roles.Other j ta ua →
        Has asked p s place (Other known) (node forms.PostfixNode w f l (forest2 ta tb))
        (node forms.PostfixNode w f l (forest2 ua ub))
    other known j z = index_claim asked p s place w f l ta tb ua ub i known j jb z y so ow

    by : (j : vectors.Kind) (q : Option Postfix) → indexes q ≡ true → is_vector (postfix_kind None q j) ≡ false →
        Has asked p s roles.Other j ta ua →
        Has asked p s place (postfix_kind None q j) (node forms.PostfixNode w f l (forest2 ta tb))
        (two_by forms.PostfixNode j jb (node forms.PostfixNode w f l ps) ua ub)
    by j None i v x = absurd (false≢true i)
    by j (Some (postfixes.Step op)) i v x = absurd (false≢true i)
    by (Pointer sp c z) (Some postfixes.Index) i v x = absurd (false≢true (sym v))
    by (Vectors z q) (Some postfixes.Index) i v x = other true (Vectors z q) x
    by (Other b) (Some postfixes.Index) i v x = other b (Other b) x
