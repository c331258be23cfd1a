-- A component of a vector value is at fault at no node and is a number: by the tree.
use Rattle.std.proofs.Common.{◌≡◌, ℕ, suc, ◌+◌, ◌-◌, ◌<◌, ◌≤◌, nat_eq, nat_lt, List, [], Option, None, Some, Bool}
use Rattle.std.proofs.Common.{true, false}
use Rattle.std.proofs.Common.{◌||◌, if◌then◌else◌, refl, sym, ap, ◌∙◌, subst, arith}
use Rattle.std.proofs.lemmas.Bool.{false≢true}
use Rattle.std.proofs.lemmas.Bool.Decides.{nat_tests}
use Rattle.wg_num.specs.declared.types.IntType.{IntType}
use Rattle.wg_num.specs.declared.types.Bin.{Bin}
use Rattle.wg_num.specs.Types.{same_type}
use Rattle.cl_tree.specs.declared.tree.Form.{Form}
use Rattle.cl_tree.specs.declared.tree.Form.TheVariants as forms
use Rattle.cl_tree.specs.Syntax.{Syntax, node, Forest, none, more}
use Rattle.cl_meaning.specs.Spelling.{name_in, binary_in, prefix_in, postfix_in}
use Rattle.cl_meaning.specs.Declarations.{form_of, word_of}
use Rattle.cl_meaning.specs.declared.operators.Prefix.{Prefix}
use Rattle.cl_meaning.specs.declared.operators.Prefix.TheVariants as prefixes
use Rattle.cl_meaning.specs.Environment.{Env}
use Rattle.cl_meaning.specs.Kinds.{callee_of}
use Rattle.cl_meaning.specs.Visible.{inside}
use Rattle.cl_meaning.specs.Faults.{Asked}
use Rattle.cl_check_sound.specs.Shape.{PrefixOf, IsExpressionOf, AreExpressionsOf}
use Rattle.cl_short_vec.specs.declared.types.Vector.{Vector}
use Rattle.cl_short_vec.specs.declared.kinds.Kind.{Kind}
use Rattle.cl_short_vec.specs.declared.kinds.Kind.TheVariants.{Vectors, Pointer, Other}
use Rattle.cl_short_vec.specs.declared.made.Made.{Made}
use Rattle.cl_short_vec.specs.declared.made.Made.TheVariants as made
use Rattle.cl_short_vec.specs.Types.{selection_in}
use Rattle.cl_short_vec.specs.Kinds.{Names, within, later, behind, is_vector, prefix_kind}
use Rattle.cl_short_vec.specs.Marks.{Mark, mark, Marks, unmarked, marking, tree_at, kind_at, front_kind, back_kind}
use Rattle.cl_short_vec.specs.Marks.{kind_by, marked, marked_parts}
use Rattle.cl_short_vec.specs.Faults.{types_differ, fits, given_by, sum, items_by, items_given, fills, inside_fills}
use Rattle.cl_short_vec.specs.Roles.{is_paren}
use Rattle.cl_short_vec.specs.Made.{made_in, made_by_prefix, made_by_selection, made_by_operator, is_comma, made_of}
use Rattle.cl_short_vec.specs.Order.{count_in, steps_in, all_steps, inside_steps}
use Rattle.cl_short_vec.specs.Parts.{width_by, width_of, item_width, part_in, item_part, filled_at, inside_part}
use Rattle.cl_short_vec.specs.Parts.{filled_part}
use Rattle.cl_short_vec_faults.specs.Parts.{HelpedBy}
use Rattle.cl_short_vec_faults.proofs.Refused.{expression_form}
use Rattle.cl_short_vec_faults.proofs.PlainForms.{postfix_part}
use Rattle.cl_short_vec_faults.proofs.Known.{not_false}
use Rattle.cl_short_vec_faults.proofs.PartNodes.{GoodNumber, many}
use Rattle.cl_short_vec_faults.proofs.PartCalls.{CallsKnown, CallKnownBy, AllCallsKnown, CallsKnownIn}
use Rattle.cl_short_vec_faults.proofs.PartCalls.{inside_callees}
use Rattle.cl_short_vec_faults.proofs.PartShown.{each_split, many_in, ThereBy, Helped, InList, Asks, node_good}
use Rattle.cl_short_vec_faults.proofs.PartFits.{NoneRefused, NoneOfAll, parts_none, node_fits, Alone, AllAlone, AsksIf}
use Rattle.cl_short_vec_faults.proofs.PartFits.{variable_asks, pointer_asks, paren_asks, prefix_asks}
use Rattle.cl_short_vec_faults.proofs.PartFits.{postfix_asks, joined_asks, call_asks, cast_asks}

-- ---- widths

by_prefix : (o : Option Prefix) (k : Kind) (n : ℕ) → width_by (made_by_prefix o) k n ≡ count_in k
by_prefix (Some (prefixes.Operator op)) k n = refl
by_prefix _ k n = refl

by_selection : (o : Option (List ℕ)) (k : Kind) (n : ℕ) → width_by (made_by_selection o) k n ≡ count_in k
by_selection (Some name) k n = refl
by_selection None k n = refl

by_operator : (o : Option Bin) (k : Kind) (n : ℕ) → width_by (made_by_operator o) k n ≡ count_in k
by_operator (Some op) k n = refl
by_operator None k n = refl

width_made : (form : Form) (w : List ℕ) (k : Kind) (n : ℕ) → width_by (made_in form w) k n ≡ count_in k
unfolding made_in
width_made forms.VariableNode w k n = refl
width_made forms.ParenNode w k n = refl
width_made forms.UnaryNode w k n = by_prefix (prefix_in w) k n
width_made forms.PostfixNode w k n = by_selection (selection_in w) k n
width_made forms.CallNode w k n = refl
width_made forms.CastNode w k n = refl
width_made _ w k n = by_operator (binary_in w) k n

made_alone : (t : Syntax) (k : Kind) → is_comma (form_of t) ≡ false → made_of true t k ≡ made_of false t k
made_alone t k e = ap (λ b. if b then made.Items else
    (if is_vector k then made_in (form_of t) (word_of t) else made.Number)) e

-- what is no list is as wide as its kind
width_alone : (t : Syntax) (k : Kind) (ms : Marks) → is_comma (form_of t) ≡ false →
    width_of (mark t k ms) ≡ count_in k
unfolding width_of
width_alone t k ms e = ap (λ how. width_by how k (item_width ms)) (made_alone t k e) ∙ by (is_vector k)
  where
    by : (b : Bool) → width_by (if b then made_in (form_of t) (word_of t) else made.Number) k (item_width ms) ≡
        count_in k
    by true = width_made (form_of t) (word_of t) k (item_width ms)
    by false = refl

given_count : (v : Vector) (k : Kind) (n : ℕ) → given_by v k ≡ Some n → count_in k ≡ n
given_count v (Vectors u r) n h = by (same_type v.of u.of) h
  where
    by : (b : Bool) → (if b then Some u.count else None) ≡ Some n → u.count ≡ n
    by true g = cc
    by false g = absurd cc
given_count v (Pointer s c u) n h = cc
given_count v (Other b) n h = cc

items_plain : (form : Form) (x y z : Option ℕ) → is_comma form ≡ false → items_by form x y z ≡ z
items_plain forms.ExprNode x y z e = absurd (false≢true (sym e))
items_plain _ x y z e = refl

given_alone : (v : Vector) (t : Syntax) (k : Kind) (ms : Marks) → is_comma (form_of t) ≡ false →
    items_given v (mark t k ms) ≡ given_by v k
unfolding items_given
given_alone v t k unmarked e = refl
given_alone v t k (marking a others) e = items_plain (form_of t) (items_given v a)
    (given_by v (back_kind (marking a others))) (given_by v k) e

sum_some : (x y : Option ℕ) (n : ℕ) → sum x y ≡ Some n →
    (i : ℕ) × (j : ℕ) × (x ≡ Some i) × (y ≡ Some j) × (i + j ≡ n)
sum_some None y n h = absurd cc
sum_some (Some i) None n h = absurd cc
sum_some (Some i) (Some j) n h = (i, j, refl, refl, cc)

there_by : (how : Made) (n c : ℕ) → c < n → ThereBy how n c
there_by made.Number n c l = tt
there_by _ n c l = l

there_if : (b : Bool) (how : Made) (n c : ℕ) → (b ≡ true → c < n) → ThereBy (if b then how else made.Number) n c
there_if true how n c l = there_by how n c (l refl)
there_if false how n c l = tt

rest : (c w n : ℕ) → nat_lt c w ≡ false → c < w + n → c - w < n
rest c w n e l = let h : w ≤ c = grind (arith, nat_tests) in omega (arith, h, l)

-- ---- what is shown of a tree

-- items of a list, each component in its place
abbrev pub Items : Asked → Env → Mark → Type 0
Items asked env m = (of : IntType) → Helped asked env (steps_in true of m) → (c : ℕ) → c < width_of m →
    GoodNumber asked env (part_in true m c)

pub record Shown (asked : Asked) (env : Env) (m : Mark) : Type 0 where
  pub operand : Alone asked env m
  pub items : Items asked env m
  pub wide : (v : Vector) (n : ℕ) → items_given v m ≡ Some n → width_of m ≡ n
  pub inside' : (v : Vector) → is_paren (form_of (tree_at m)) ≡ true → inside_fills v m ≡ true →
      InList asked env v.count m

-- of the expressions among some parts
abbrev pub AllShown : Asked → Env → Forest → Marks → Type 0
AllShown asked env (more p ps) (marking m ms) =
    (IsExpressionOf true p → Shown asked env m) × AllShown asked env ps ms
AllShown asked env ps ms = Unit {0}

module _ (asked : Asked) (env : Env) where
  -- a node by itself
  asked_alone : (t : Syntax) (k : Kind) (ms : Marks) → Asks asked env (made_of false t k) t k ms →
      Alone asked env (mark t k ms)
  unfolding part_in steps_in
  asked_alone t k ms a of h c l = node_good asked env (made_of false t k) of t k ms a h c
      (there_if (is_vector k) (made_in (form_of t) (word_of t)) (count_in k) c l)

  -- one item
  single_items : (t : Syntax) (k : Kind) (ms : Marks) → is_comma (form_of t) ≡ false →
      Asks asked env (made_of false t k) t k ms → Items asked env (mark t k ms)
  unfolding part_in steps_in
  single_items t k ms e a of h c l =
      let less : c < count_in k = subst (λ z. c < z) (width_alone t k ms e) l in
      node_good asked env (made_of true t k) of t k ms
      (subst (λ how. Asks asked env how t k ms) (sym (made_alone t k e)) a) h c
      (subst (λ how. ThereBy how (count_in k) c) (sym (made_alone t k e))
      (there_if (is_vector k) (made_in (form_of t) (word_of t)) (count_in k) c (λ v. less)))

  -- items in front, and one more
  comma_items : (w : List ℕ) (f l : ℕ) (ps : Forest) (k : Kind) (a b : Mark) → Items asked env a →
      Alone asked env b → Items asked env (mark (node forms.ExprNode w f l ps) k (marking a (marking b unmarked)))
  unfolding part_in item_part steps_in all_steps width_of item_width
  comma_items w f l ps k a b g h of e c less =
      let r = each_split (HelpedBy env) (steps_in true of a) (all_steps false of (marking b unmarked)) e in
      let q = each_split (HelpedBy env) (steps_in false of b) (all_steps false of unmarked) r.1 in
      by (nat_lt c (width_of a)) refl r.0 q.0 less
    where
      by : (z : Bool) → nat_lt c (width_of a) ≡ z → Helped asked env (steps_in true of a) →
          Helped asked env (steps_in false of b) → c < width_of a + (count_in (kind_at b)) →
          GoodNumber asked env (if z then part_in true a c else part_in false b (c - width_of a))
      by true x y i j = g of y c (grind (arith, nat_tests))
      by false x y i j = h of i (c - width_of a) (λ v. rest c (width_of a) (count_in (kind_at b)) x j)

  comma_wide : (w : List ℕ) (f l : ℕ) (ps : Forest) (k : Kind) (a b : Mark) →
      ((v : Vector) (n : ℕ) → items_given v a ≡ Some n → width_of a ≡ n) → (v : Vector) (n : ℕ) →
      items_given v (mark (node forms.ExprNode w f l ps) k (marking a (marking b unmarked))) ≡ Some n →
      width_of (mark (node forms.ExprNode w f l ps) k (marking a (marking b unmarked))) ≡ n
  unfolding items_given width_of item_width
  comma_wide w f l ps k a b g v n e =
      let s = sum_some (items_given v a) (given_by v (kind_at b)) n e in
      ap (λ z. z + count_in (kind_at b)) (g v s.0 s.2) ∙
      ap (λ z. s.0 + z) (given_count v (kind_at b) s.1 s.3) ∙ s.4

  -- a list in parentheses
  inside_list : (t : Syntax) (k : Kind) (x : Mark) (v : Vector) → is_paren (form_of t) ≡ true → Items asked env x →
      ((u : Vector) (n : ℕ) → items_given u x ≡ Some n → width_of x ≡ n) →
      inside_fills v (mark t k (marking x unmarked)) ≡ true →
      InList asked env v.count (mark t k (marking x unmarked))
  unfolding inside_part filled_part inside_steps all_steps
  inside_list t k x v p g wide h of s c l =
      let steps = subst (λ z. Helped asked env (if z then all_steps true of (marking x unmarked) else [])) p s in
      let r = each_split (HelpedBy env) (steps_in true of x) (all_steps false of unmarked) steps in
      g of r.0 (filled_at (width_of x) c) (by (items_given v x) refl h)
    where
      at : (n : ℕ) (b : Bool) → nat_eq (width_of x) 1 ≡ b → width_of x ≡ n → (nat_eq n v.count || nat_eq n 1) ≡ true →
          (if b then 0 else c) < width_of x
      at n true q same f = grind (arith, nat_tests)
      at n false q same f = grind (arith, nat_tests)

      by : (o : Option ℕ) → items_given v x ≡ o → fills v o ≡ true → filled_at (width_of x) c < width_of x
      by None e f = absurd (false≢true f)
      by (Some n) e f = at n (nat_eq (width_of x) 1) refl (wide v n e) f

  prefixed : (o : Option Prefix) (t p : Syntax) (m : Mark) (e : Type 0) → PrefixOf o p e → (e → Alone asked env m) →
      AsksIf asked env t (made_by_prefix o) (prefix_kind o (kind_at m)) (marking m unmarked)
  prefixed None t p m e h f = absurd h
  prefixed (Some prefixes.Size) t p m e h f = tt
  prefixed (Some (prefixes.Step op)) t p m e h f = prefix_asks asked env (Some (prefixes.Step op)) t m (f h)
  prefixed (Some (prefixes.Operator op)) t p m e h f = prefix_asks asked env (Some (prefixes.Operator op)) t m (f h)
  prefixed (Some prefixes.Address) t p m e h f = prefix_asks asked env (Some prefixes.Address) t m (f h)
  prefixed (Some prefixes.Content) t p m e h f = prefix_asks asked env (Some prefixes.Content) t m (f h)

  alone_all : (ps : Forest) (form : Form) (all : Forest) (names : Names) (front : Bool) →
      AreExpressionsOf true ps → AllShown asked env ps (marked_parts form all names front ps) →
      AllAlone asked env (marked_parts form all names front ps)
  unfolding marked_parts
  alone_all none form all names front h g = tt
  alone_all (more p ps) form all names front h g =
      ((g.0 h.0).operand, alone_all ps form all (later form all names front p) false h.1 g.1)

marked_many : (ps : Forest) (form : Form) (all : Forest) (names : Names) (front : Bool) →
    many_in (marked_parts form all names front ps) ≡ many ps
unfolding marked_parts
marked_many none form all names front = refl
marked_many (more p ps) form all names front = ap suc (marked_many ps form all (later form all names front p) false)

-- ---- nodes

-- a node of that production with these parts
abbrev NodeMark : Names → Form → List ℕ → ℕ → ℕ → Forest → Mark
NodeMark names form w f l parts = mark (node form w f l parts)
    (kind_by names form w (marked_parts form parts (within form w names) true parts))
    (marked_parts form parts (within form w names) true parts)

module _ (asked : Asked) where
  asks_node : (names : Names) (form : Form) (w : List ℕ) (f l : ℕ) (parts : Forest) (env : Env) →
      IsExpressionOf true (node form w f l parts) → CallKnownBy env form w (many parts) →
      NoneRefused (NodeMark names form w f l parts) →
      AllShown asked (inside env form w) parts (marked_parts form parts (within form w names) true parts) →
      Asks asked env (made_of false (node form w f l parts)
      (kind_by names form w (marked_parts form parts (within form w names) true parts))) (node form w f l parts)
      (kind_by names form w (marked_parts form parts (within form w names) true parts))
      (marked_parts form parts (within form w names) true parts)
  unfolding marked_parts kind_by made_in types_differ inside
  asks_node names forms.NumberNode w f l none env h c r g = tt
  asks_node names forms.TruthNode w f l none env h c r g = tt
  asks_node names forms.VariableNode w f l none env h c r g =
      variable_asks asked env (node forms.VariableNode w f l none) (names (name_in w)) unmarked
  asks_node names forms.ParenNode w f l (more a none) env h c r g =
      paren_asks asked env (node forms.ParenNode w f l (more a none)) (marked names a) (g.0 h).operand
  asks_node names forms.ExprNode w f l (more a (more b none)) env h c r g =
      let parts = more a (more b none) in
      let ms = marked_parts forms.ExprNode parts names true parts in
      pointer_asks asked env (node forms.ExprNode w f l parts) (made_in forms.ExprNode w) (back_kind ms) ms
  asks_node names forms.AssignNode w f l (more a (more b none)) env h c r g =
      let parts = more a (more b none) in
      let ms = marked_parts forms.AssignNode parts names true parts in
      pointer_asks asked env (node forms.AssignNode w f l parts) (made_in forms.AssignNode w) (front_kind ms) ms
  asks_node names forms.CondNode w f l (more a (more b (more d none))) env h c r g = tt
  asks_node names forms.OrNode w f l (more a (more b none)) env h c r g = tt
  asks_node names forms.AndNode w f l (more a (more b none)) env h c r g = tt
  asks_node names forms.BorNode w f l (more a (more b none)) env h c r g =
      let t = node forms.BorNode w f l (more a (more b none)) in
      let ms = marked_parts forms.BorNode (more a (more b none)) names true (more a (more b none)) in
      let m = marked names a in
      let p = marked (behind names a) b in
      joined_asks asked env (binary_in w) t m p (not_false (fits (kind_at m) (kind_at p))
      (node_fits r.0 t (kind_by names forms.BorNode w ms) ms r.1).2) (g.0 h.1).operand (g.1.0 h.2).operand
  asks_node names forms.BxorNode w f l (more a (more b none)) env h c r g =
      let t = node forms.BxorNode w f l (more a (more b none)) in
      let ms = marked_parts forms.BxorNode (more a (more b none)) names true (more a (more b none)) in
      let m = marked names a in
      let p = marked (behind names a) b in
      joined_asks asked env (binary_in w) t m p (not_false (fits (kind_at m) (kind_at p))
      (node_fits r.0 t (kind_by names forms.BxorNode w ms) ms r.1).2) (g.0 h.1).operand (g.1.0 h.2).operand
  asks_node names forms.BandNode w f l (more a (more b none)) env h c r g =
      let t = node forms.BandNode w f l (more a (more b none)) in
      let ms = marked_parts forms.BandNode (more a (more b none)) names true (more a (more b none)) in
      let m = marked names a in
      let p = marked (behind names a) b in
      joined_asks asked env (binary_in w) t m p (not_false (fits (kind_at m) (kind_at p))
      (node_fits r.0 t (kind_by names forms.BandNode w ms) ms r.1).2) (g.0 h.1).operand (g.1.0 h.2).operand
  asks_node names forms.EqualNode w f l (more a (more b none)) env h c r g =
      let t = node forms.EqualNode w f l (more a (more b none)) in
      let ms = marked_parts forms.EqualNode (more a (more b none)) names true (more a (more b none)) in
      let m = marked names a in
      let p = marked (behind names a) b in
      joined_asks asked env (binary_in w) t m p (not_false (fits (kind_at m) (kind_at p))
      (node_fits r.0 t (kind_by names forms.EqualNode w ms) ms r.1).2) (g.0 h.1).operand (g.1.0 h.2).operand
  asks_node names forms.OrderNode w f l (more a (more b none)) env h c r g =
      let t = node forms.OrderNode w f l (more a (more b none)) in
      let ms = marked_parts forms.OrderNode (more a (more b none)) names true (more a (more b none)) in
      let m = marked names a in
      let p = marked (behind names a) b in
      joined_asks asked env (binary_in w) t m p (not_false (fits (kind_at m) (kind_at p))
      (node_fits r.0 t (kind_by names forms.OrderNode w ms) ms r.1).2) (g.0 h.1).operand (g.1.0 h.2).operand
  asks_node names forms.ShiftNode w f l (more a (more b none)) env h c r g =
      let t = node forms.ShiftNode w f l (more a (more b none)) in
      let ms = marked_parts forms.ShiftNode (more a (more b none)) names true (more a (more b none)) in
      let m = marked names a in
      let p = marked (behind names a) b in
      joined_asks asked env (binary_in w) t m p (not_false (fits (kind_at m) (kind_at p))
      (node_fits r.0 t (kind_by names forms.ShiftNode w ms) ms r.1).2) (g.0 h.1).operand (g.1.0 h.2).operand
  asks_node names forms.SumNode w f l (more a (more b none)) env h c r g =
      let t = node forms.SumNode w f l (more a (more b none)) in
      let ms = marked_parts forms.SumNode (more a (more b none)) names true (more a (more b none)) in
      let m = marked names a in
      let p = marked (behind names a) b in
      joined_asks asked env (binary_in w) t m p (not_false (fits (kind_at m) (kind_at p))
      (node_fits r.0 t (kind_by names forms.SumNode w ms) ms r.1).2) (g.0 h.1).operand (g.1.0 h.2).operand
  asks_node names forms.TermNode w f l (more a (more b none)) env h c r g =
      let t = node forms.TermNode w f l (more a (more b none)) in
      let ms = marked_parts forms.TermNode (more a (more b none)) names true (more a (more b none)) in
      let m = marked names a in
      let p = marked (behind names a) b in
      joined_asks asked env (binary_in w) t m p (not_false (fits (kind_at m) (kind_at p))
      (node_fits r.0 t (kind_by names forms.TermNode w ms) ms r.1).2) (g.0 h.1).operand (g.1.0 h.2).operand
  asks_node names forms.CastNode w f l (more (node forms.TypeNode tw tf tl tps) (more a none)) env h c r g =
      let parts = more (node forms.TypeNode tw tf tl tps) (more a none) in
      cast_asks asked env w tw f l tf tl parts tps (kind_by names forms.TypeNode tw (marked_parts forms.TypeNode tps
      names true tps)) (marked_parts forms.TypeNode tps names true tps) (marked names a) r (g.1.0 h.1).inside'
  asks_node names forms.CastNode w f l (more t (more a none)) env h c r g = absurd h.0
  asks_node names forms.UnaryNode w f l (more a none) env h c r g =
      prefixed asked env (prefix_in w) (node forms.UnaryNode w f l (more a none)) a (marked names a)
      (IsExpressionOf true a) h (λ e. (g.0 e).operand)
  asks_node names forms.PostfixNode w f l (more a none) env h c r g =
      postfix_asks asked env (selection_in w) (postfix_in w) (node forms.PostfixNode w f l (more a none))
      (marked names a) unmarked refl (g.0 (postfix_part w (IsExpressionOf true a) h)).operand
  asks_node names forms.PostfixNode w f l (more a (more b none)) env h c r g =
      postfix_asks asked env (selection_in w) (postfix_in w) (node forms.PostfixNode w f l (more a (more b none)))
      (marked names a) (marking (marked (behind names a) b) unmarked) refl (g.0 h.1).operand
  asks_node names forms.CallNode w f l parts env h c r g =
      let inner = within forms.CallNode w names in
      let ms = marked_parts forms.CallNode parts inner true parts in
      let t = node forms.CallNode w f l parts in
      call_asks asked env t ms (node_fits r.0 t (kind_by names forms.CallNode w ms) ms r.1).2
      (subst (CallsKnown env (name_in w)) (sym (marked_many parts forms.CallNode parts inner true)) c)
      (alone_all asked (inside env forms.CallNode w) parts forms.CallNode parts inner true h g)
  asks_node names form w f l parts env h c r g = absurd h

  items_node : (names : Names) (form : Form) (w : List ℕ) (f l : ℕ) (parts : Forest) (env : Env) →
      IsExpressionOf true (node form w f l parts) →
      AllShown asked (inside env form w) parts (marked_parts form parts (within form w names) true parts) →
      Asks asked env (made_of false (node form w f l parts)
      (kind_by names form w (marked_parts form parts (within form w names) true parts))) (node form w f l parts)
      (kind_by names form w (marked_parts form parts (within form w names) true parts))
      (marked_parts form parts (within form w names) true parts) →
      Items asked env (NodeMark names form w f l parts)
  unfolding marked_parts inside
  items_node names forms.ExprNode w f l (more a (more b none)) env h g o =
      let parts = more a (more b none) in
      comma_items asked env w f l parts
      (kind_by names forms.ExprNode w (marked_parts forms.ExprNode parts names true parts))
      (marked names a) (marked (behind names a) b) (g.0 h.0).items (g.1.0 h.1).operand
  items_node names forms.ExprNode w f l parts env h g o = absurd h
  items_node names form w f l parts env h g o =
      single_items asked env (node form w f l parts)
      (kind_by names form w (marked_parts form parts (within form w names) true parts))
      (marked_parts form parts (within form w names) true parts) refl o

  wide_node : (names : Names) (form : Form) (w : List ℕ) (f l : ℕ) (parts : Forest) (env : Env) →
      IsExpressionOf true (node form w f l parts) →
      AllShown asked (inside env form w) parts (marked_parts form parts (within form w names) true parts) →
      (v : Vector) (n : ℕ) → items_given v (NodeMark names form w f l parts) ≡ Some n → width_of (NodeMark names form w f l parts) ≡ n
  unfolding marked_parts inside
  wide_node names forms.ExprNode w f l (more a (more b none)) env h g v n e =
      let parts = more a (more b none) in
      comma_wide asked env w f l parts
      (kind_by names forms.ExprNode w (marked_parts forms.ExprNode parts names true parts))
      (marked names a) (marked (behind names a) b) (g.0 h.0).wide v n e
  wide_node names forms.ExprNode w f l parts env h g v n e = absurd h
  wide_node names form w f l parts env h g v n e =
      let t = node form w f l parts in
      let ms = marked_parts form parts (within form w names) true parts in
      let k = kind_by names form w ms in
      width_alone t k ms refl ∙ given_count v k n (sym (given_alone v t k ms refl) ∙ e)

  inside_node : (names : Names) (form : Form) (w : List ℕ) (f l : ℕ) (parts : Forest) (env : Env) →
      IsExpressionOf true (node form w f l parts) →
      AllShown asked (inside env form w) parts (marked_parts form parts (within form w names) true parts) →
      (v : Vector) → is_paren form ≡ true → inside_fills v (NodeMark names form w f l parts) ≡ true →
      InList asked env v.count (NodeMark names form w f l parts)
  unfolding marked_parts inside
  inside_node names forms.ParenNode w f l (more a none) env h g v p e =
      let parts = more a none in
      inside_list asked env (node forms.ParenNode w f l parts)
      (kind_by names forms.ParenNode w (marked_parts forms.ParenNode parts names true parts)) (marked names a) v refl
      (g.0 h).items (g.0 h).wide e
  inside_node names forms.ParenNode w f l parts env h g v p e = absurd h
  inside_node names form w f l parts env h g v p e = absurd (false≢true p)

  node_shown : (names : Names) (form : Form) (w : List ℕ) (f l : ℕ) (parts : Forest) (env : Env) →
      IsExpressionOf true (node form w f l parts) → CallKnownBy env form w (many parts) →
      NoneRefused (NodeMark names form w f l parts) →
      AllShown asked (inside env form w) parts (marked_parts form parts (within form w names) true parts) →
      Shown asked env (NodeMark names form w f l parts)
  node_shown names form w f l parts env h c r g =
      let ms = marked_parts form parts (within form w names) true parts in
      let o = asks_node names form w f l parts env h c r g in record {
        operand = asked_alone asked env (node form w f l parts) (kind_by names form w ms) ms o;
        items = items_node names form w f l parts env h g o;
        wide = wide_node names form w f l parts env h g;
        inside' = inside_node names form w f l parts env h g;
      }

  -- ---- by the tree

  module _ (form : Env) where
    called_by : (env : Env) (g : Form) (w : List ℕ) (n : ℕ) →
        ((q : List ℕ) → callee_of env q ≡ callee_of form q) → CallKnownBy form g w n → CallKnownBy env g w n
    called_by env forms.CallNode w n s h = λ f e. let k = h f e in (s (name_in w) ∙ k.0, k.1)
    called_by env _ w n s h = h

    mutual
      unfolding marked marked_parts

      -- an expression of which nothing is refused
      pub shown : (t : Syntax) (names : Names) (env : Env) → IsExpressionOf true t → AllCallsKnown form t →
          ((q : List ℕ) → callee_of env q ≡ callee_of form q) → NoneRefused (marked names t) →
          Shown asked env (marked names t)
      shown (node g w f l parts) names env h c s r =
          let ms = marked_parts g parts (within g w names) true parts in
          let k = kind_by names g w ms in
          let t = node g w f l parts in
          let e = expression_form t h in
          node_shown names g w f l parts env h (called_by env g w (many parts) s c.0) r
          (all_shown parts g parts (within g w names) true (inside env g w) c.1 (λ q. inside_callees g e env w q ∙ s q)
          (parts_none r.0 (mark t k ms) true ms (node_fits r.0 t k ms r.1).0))

      all_shown : (ps : Forest) (g : Form) (all : Forest) (names : Names) (front : Bool) (env : Env) →
          CallsKnownIn form ps → ((q : List ℕ) → callee_of env q ≡ callee_of form q) →
          NoneOfAll (marked_parts g all names front ps) → AllShown asked env ps (marked_parts g all names front ps)
      all_shown none g all names front env c s r = tt
      all_shown (more p ps) g all names front env c s r = (
        λ h. shown p names env h c.0 s r.0,
        all_shown ps g all (later g all names front p) false env c.1 s r.1,
      )
