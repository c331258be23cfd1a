-- A vector expression of which nothing is refused fits: calls, lists, and by the tree.
use Rattle.std.proofs.Common.{◌≡◌, ℕ, ◌+◌, ◌<◌, nat_eq, List, Option, None, Some}
use Rattle.std.proofs.Common.{Bool, true, false, not, ◌&&◌, ◌||◌, if◌then◌else◌, refl, sym, ap, ◌∙◌, subst, arith}
use Rattle.std.proofs.Common.{inl, inr}
use Rattle.std.proofs.lemmas.Bool.{false≢true}
use Rattle.std.proofs.lemmas.Bool.Decides.{nat_tests}
use Rattle.wg_num.specs.declared.types.IntType.{IntType}
use Rattle.wg_num.specs.declared.types.Fun.{Fun}
use Rattle.wg_num.specs.Types.{same_type}
use Rattle.wg_num.proofs.TypeLaws.{same_type_is}
use Rattle.cl_tree.specs.declared.tree.Form.{Form}
use Rattle.cl_tree.specs.declared.tree.Form.TheVariants as forms
use Rattle.cl_tree.specs.Syntax.{Syntax, node, Forest, none, more}
use Rattle.cl_meaning.specs.OwnWords.{name_in}
use Rattle.cl_meaning.specs.Names.{intrinsic_in}
use Rattle.cl_meaning.specs.Operators.{binary_in, prefix_in, postfix_in}
use Rattle.cl_meaning.specs.Declarations.{form_of, word_of}
use Rattle.cl_meaning.specs.declared.operators.Prefix.{Prefix}
use Rattle.cl_meaning.specs.declared.operators.Prefix.TheVariants as prefixes
use Rattle.cl_meaning.specs.declared.names.Intrinsic.{Intrinsic}
use Rattle.cl_meaning.specs.declared.names.Intrinsic.TheVariants as intrinsics
use Rattle.cl_meaning.specs.Kinds.{is_some}
use Rattle.cl_check_sound.specs.Shape.{PrefixOf, PostfixOf, IsExpressionOf, AreExpressionsOf}
use Rattle.cl_short_vec.specs.declared.types.Vector.{Vector}
use Rattle.cl_short_vec.specs.declared.kinds.Reach.{Reach}
use Rattle.cl_short_vec.specs.declared.kinds.Kind.{Kind}
use Rattle.cl_short_vec.specs.declared.kinds.Kind.TheVariants.{Vectors, Pointer, Other}
use Rattle.cl_short_vec.specs.declared.made.Made.TheVariants as made
use Rattle.cl_short_vec.specs.declared.roles.Role.TheVariants.{Free, Typed}
use Rattle.cl_short_vec.specs.Types.{vector_in, selection_in}
use Rattle.cl_short_vec.specs.Kinds.{Names, within, later, behind, is_vector, called_kind, cast_kind, prefix_kind}
use Rattle.cl_short_vec.specs.Marks.{Mark, mark, Marks, unmarked, marking, tree_at, kind_at, front_kind, back_kind}
use Rattle.cl_short_vec.specs.Marks.{vector_among, kind_by, marked, marked_parts}
use Rattle.cl_short_vec.specs.Faults.{misplaced, types_differ, refusals, refusals_in, fits, is_typed, agrees}
use Rattle.cl_short_vec.specs.Faults.{all_agree, given_by, sum, items_by, items_given, fills, inside_fills}
use Rattle.cl_short_vec.specs.Faults.{cast_fills}
use Rattle.cl_short_vec.specs.Roles.{role_of, is_paren, is_list_cast}
use Rattle.cl_short_vec.specs.Made.{made_in, made_by_prefix, is_comma}
use Rattle.cl_short_vec.specs.Order.{type_in, count_in}
use Rattle.cl_short_vec.specs.Parts.{width_by, width_of, item_width, filled_at}
use Rattle.cl_short_vec_correct.proofs.Whole.{WholeKind, WholeNames, mark_whole, among_whole}
use Rattle.cl_short_vec_correct.proofs.Whole.{later_whole, within_whole, parts_whole}
use Rattle.cl_short_vec_correct.proofs.Fitting.{type_by, type_at, Within, IsOperand, EitherFits, CallFits}
use Rattle.cl_short_vec_correct.proofs.Fitting.{fits_by, Fitting, ItemsFit, AllFit, ListFits, InsideFits, FilledFits}
use Rattle.cl_short_vec_correct.proofs.Fitting.{asked_of}
use Rattle.cl_short_vec_correct.proofs.Components.{within_items, width_made}
use Rattle.cl_short_vec_correct.proofs.Fits.{none_of, NoneRefused, NoneOfAll, parts_none, node_none, not_false}
use Rattle.cl_short_vec_correct.proofs.Fits.{both_true, Suits, same_parts, FitsAlone, operand_fits, FitsIf}
use Rattle.cl_short_vec_correct.proofs.Fits.{variable_fits}
use Rattle.cl_short_vec_correct.proofs.Fits.{pointer_fits, paren_fits, prefix_fits, postfix_fits, joined_fits}
use Rattle.cl_short_vec_correct.proofs.Fits.{type_made}

-- ---- calls

abbrev AllAlone : Marks → Type 0
AllAlone unmarked = Unit {0}
AllAlone (marking m ms) = FitsAlone m × AllAlone ms

pub suits_same : (v : Vector) (r : Reach) (k : Kind) → agrees (Vectors v r) k ≡ true → Suits v k
suits_same v r (Vectors u s) h = same_parts v u h
suits_same v r (Pointer s c u) h = tt
suits_same v r (Other b) h = tt

all_fit : (v : Vector) (r : Reach) (ms : Marks) → all_agree (Vectors v r) ms ≡ true → AllAlone ms →
    AllFit v.of v.count ms
unfolding AllFit
all_fit v r unmarked h g = tt
all_fit v r (marking m ms) h g =
    let b = both_true (agrees (Vectors v r) (kind_at m)) (all_agree (Vectors v r) ms) h in
    (operand_fits m v (suits_same v r (kind_at m) b.0) g.0, all_fit v r ms b.1 g.1)

call_shows : (o : Option Intrinsic) (z : Kind) → is_vector (called_kind o z) ≡ true →
    (f : Fun) × (v : Vector) × (r : Reach) × (o ≡ Some (intrinsics.Function f)) × (z ≡ Vectors v r)
call_shows (Some (intrinsics.Function f)) (Vectors v r) h = (f, v, r, refl, refl)
call_shows o z h = absurd (false≢true h)

call_fits : (of : IntType) (t : Syntax) (ms : Marks) →
    (is_vector (called_kind (intrinsic_in (name_in (word_of t))) (vector_among ms)) &&
    not (all_agree (vector_among ms) ms)) ≡ false → WholeKind (vector_among ms) → AllAlone ms →
    FitsIf of t made.Called (called_kind (intrinsic_in (name_in (word_of t))) (vector_among ms)) ms
call_fits of t ms e h g = by (is_vector k) refl e
  where
    name : List ℕ
    name = name_in (word_of t)

    k : Kind
    k = called_kind (intrinsic_in name) (vector_among ms)

    by : (c : Bool) → is_vector k ≡ c → (c && not (all_agree (vector_among ms) ms)) ≡ false →
        fits_by (if c then made.Called else made.Number) t k ms (asked_of of k ms)
    by false x e = tt
    by true x e =
        let q = call_shows (intrinsic_in name) (vector_among ms) x in
        let f = q.0 in
        let fun : Option Intrinsic = Some (intrinsics.Function f) in
        subst (λ z. CallFits name (type_in (vector_among ms)) (type_in (called_kind z (vector_among ms))) ×
        AllFit (type_in (vector_among ms)) (count_in (called_kind z (vector_among ms))) ms) (sym q.3)
        (subst (λ z. CallFits name (type_in z) (type_in (called_kind fun z)) ×
        AllFit (type_in z) (count_in (called_kind fun z)) ms) (sym q.4) (
          record {
            function = f;
            named = q.3;
            whole = subst WholeKind q.4 h;
            gives = refl;
          },
          all_fit q.1 q.2 ms (subst (λ z. all_agree z ms ≡ true) q.4 (not_false (all_agree (vector_among ms) ms) e)) g,
        ))

-- ---- lists

-- items that give so many components of that type fit
pub record Items (v : Vector) (n : ℕ) (m : Mark) : Type 0 where
  pub fits : Fitting true v.of m
  pub typed : type_at true v.of m ≡ v.of
  pub wide : width_of m ≡ n

-- what an item gives
abbrev Given : Vector → ℕ → Kind → Type 0
Given v n (Vectors u r) = (u.of ≡ v.of) × (u.count ≡ n)
Given v n k = 1 ≡ n

given : (v : Vector) (k : Kind) (n : ℕ) → given_by v k ≡ Some n → Given v n k
given v (Vectors u r) n h = by (same_type v.of u.of) refl h
  where
    by : (b : Bool) → same_type v.of u.of ≡ b → (if b then Some u.count else None) ≡ Some n →
        (u.of ≡ v.of) × (u.count ≡ n)
    by true e g = (sym (same_type_is v.of u.of e), cc)
    by false e g = absurd cc
given v (Pointer s c u) n h = cc
given v (Other b) n h = cc

given_count : (v : Vector) (n : ℕ) (k : Kind) → Given v n k → count_in k ≡ n
given_count v n (Vectors u r) h = h.1
given_count v n (Pointer s c u) h = h
given_count v n (Other b) h = h

given_type : (v : Vector) (n : ℕ) (m : Mark) → Given v n (kind_at m) → type_at false v.of m ≡ v.of
given_type v n (mark t (Vectors u r) ms) h = type_made (form_of t) (word_of t) v.of (Vectors u r) ∙ h.0
given_type v n (mark t (Pointer s c u) ms) h = refl
given_type v n (mark t (Other b) ms) h = refl

items_plain : (form : Form) (x y z : Option ℕ) → is_comma form ≡ false → items_by form x y z ≡ z
items_plain forms.ExprNode x y z e = absurd (false≢true (sym e))
items_plain _ x y z e = refl

given_alone : (v : Vector) (t : Syntax) (k : Kind) (ms : Marks) → is_comma (form_of t) ≡ false →
    items_given v (mark t k ms) ≡ given_by v k
unfolding items_given
given_alone v t k unmarked e = refl
given_alone v t k (marking a others) e = items_plain (form_of t) (items_given v a)
    (given_by v (back_kind (marking a others))) (given_by v k) e

-- one item
single_items : (t : Syntax) (k : Kind) (ms : Marks) (v : Vector) (n : ℕ) → is_comma (form_of t) ≡ false →
    FitsAlone (mark t k ms) → items_given v (mark t k ms) ≡ Some n → Items v n (mark t k ms)
unfolding Fitting width_of
single_items t k ms v n e f h =
    let g = given v k n (sym (given_alone v t k ms e) ∙ h) in
    let how = if is_vector k then made_in (form_of t) (word_of t) else made.Number in record {
      fits = subst (λ b. fits_by (if b then made.Items else how) t k ms (asked_of v.of k ms)) (sym e) (f v.of);
      typed = ap (λ b. type_by (if b then made.Items else how) v.of k) e ∙ given_type v n (mark t k ms) g;
      wide = ap (λ b. width_by (if b then made.Items else how) k (item_width ms)) e ∙ by (is_vector k) ∙
          given_count v n k g;
    }
  where
    by : (b : Bool) → width_by (if b then made_in (form_of t) (word_of t) else made.Number) k (item_width ms) ≡
        count_in k
    by true = width_made (form_of t) (word_of t) k (item_width ms)
    by false = refl

sum_some : (x y : Option ℕ) (n : ℕ) → sum x y ≡ Some n →
    (i : ℕ) × (j : ℕ) × (x ≡ Some i) × (y ≡ Some j) × (i + j ≡ n)
sum_some None y n h = absurd cc
sum_some (Some i) None n h = absurd cc
sum_some (Some i) (Some j) n h = (i, j, refl, refl, cc)

-- items in front, and one more
comma_items : (w : List ℕ) (f l : ℕ) (ps : Forest) (k : Kind) (a b : Mark) (v : Vector) (n : ℕ) →
    ((i : ℕ) → items_given v a ≡ Some i → Items v i a) → FitsAlone b →
    items_given v (mark (node forms.ExprNode w f l ps) k (marking a (marking b unmarked))) ≡ Some n →
    Items v n (mark (node forms.ExprNode w f l ps) k (marking a (marking b unmarked)))
unfolding Fitting ItemsFit width_of item_width items_given
comma_items w f l ps k a b v n g h e =
    let s = sum_some (items_given v a) (given_by v (kind_at b)) n e in
    let x = g s.0 s.2 in
    let y = given v (kind_at b) s.1 s.3 in record {
      fits = (x.fits, x.typed, h v.of, given_type v s.1 b y);
      typed = refl;
      wide = ap (λ z. z + count_in (kind_at b)) x.wide ∙ ap (λ z. s.0 + z) (given_count v s.1 (kind_at b) y) ∙ s.4;
    }

-- a list in parentheses
inside_fit : (t : Syntax) (k : Kind) (x : Mark) (others : Marks) (v : Vector) →
    ((i : ℕ) → items_given v x ≡ Some i → Items v i x) → inside_fills v (mark t k (marking x others)) ≡ true →
    InsideFits v.of v.count (mark t k (marking x others))
unfolding InsideFits FilledFits
inside_fit t k x others v g h = by (items_given v x) refl h
  where
    by : (o : Option ℕ) → items_given v x ≡ o → fills v o ≡ true →
        IsOperand (Fitting true v.of x) true v.of (filled_at (width_of x)) v.count x
    by None e f = absurd (false≢true f)
    by (Some n) e f = let i = g n e in (i.fits, i.typed, λ c l. at c l (nat_eq (width_of x) 1) refl i.wide f)
      where
        at : (c : ℕ) → c < v.count → (b : Bool) → nat_eq (width_of x) 1 ≡ b → width_of x ≡ n →
            (nat_eq n v.count || nat_eq n 1) ≡ true → Within true x (if b then 0 else c)
        at c l true q wide f = within_items x 0 (grind (arith, nat_tests))
        at c l false q wide f = within_items x c (grind (arith, nat_tests))

-- a vector type with a list behind it
typed_by : (v : Vector) (o : Option Vector) (b : Bool) → o ≡ Some v →
    (is_some o && not (is_typed (if b then Typed else Free))) ≡ false → b ≡ true
typed_by v o true e h = refl
typed_by v o false e h =
    absurd (false≢true (sym (subst (λ z. (is_some z && not (is_typed Free)) ≡ false) e h)))

cast_fits : (of : IntType) (w tw : List ℕ) (f l tf tl : ℕ) (ps tps : Forest) (k : Kind) (tms : Marks)
    (p : Mark) → NoneRefused (mark (node forms.CastNode w f l ps) (cast_kind (vector_in tw))
    (marking (mark (node forms.TypeNode tw tf tl tps) k tms) (marking p unmarked))) →
    ((v : Vector) → is_paren (form_of (tree_at p)) ≡ true → inside_fills v p ≡ true →
    InsideFits v.of v.count p) →
    FitsIf of (node forms.CastNode w f l ps) made.Listed (cast_kind (vector_in tw))
    (marking (mark (node forms.TypeNode tw tf tl tps) k tms) (marking p unmarked))
unfolding ListFits misplaced role_of types_differ refusals_in
cast_fits of w tw f l tf tl ps tps k tms p r g = by (vector_in tw) refl
  where
    type : Mark
    type = mark (node forms.TypeNode tw tf tl tps) k tms

    ms : Marks
    ms = marking type (marking p unmarked)

    t : Syntax
    t = node forms.CastNode w f l ps

    by : (o : Option Vector) → vector_in tw ≡ o → FitsIf of t made.Listed (cast_kind o) ms
    by None e = tt
    by (Some v) e =
        let n = node_none r.0 t (cast_kind (vector_in tw)) ms r.1 in
        let role = role_of r.0 (mark t (cast_kind (vector_in tw)) ms) true false type in
        let d = none_of (refusals role type)
        (refusals_in r.0 (mark t (cast_kind (vector_in tw)) ms) false (marking p unmarked)) n.0 in
        let listed : is_list_cast ms ≡ true = typed_by v (vector_in tw) (is_list_cast ms) e
        (node_none role (node forms.TypeNode tw tf tl tps) k tms d.0).1 in
        let pe = (both_true (is_some (vector_in tw)) (is_paren (form_of (tree_at p))) listed).1 in
        let full : cast_fills (vector_in tw) ms ≡ true = not_false (cast_fills (vector_in tw) ms)
        (subst (λ b. (b && not (cast_fills (vector_in tw) ms)) ≡ false) listed n.2) in
        subst (λ b. EitherFits b (InsideFits v.of v.count p) ⊥) (sym pe)
        (g v pe (subst (λ z. cast_fills z ms ≡ true) e full))

-- ---- nodes

-- what is shown of a tree
pub record Good (m : Mark) : Type 0 where
  pub operand : FitsAlone m
  pub items : (v : Vector) (n : ℕ) → items_given v m ≡ Some n → Items v n m
  pub inside : (v : Vector) → is_paren (form_of (tree_at m)) ≡ true → inside_fills v m ≡ true →
      InsideFits v.of v.count m

-- of the expressions among some parts
abbrev pub AllGood : Forest → Marks → Type 0
AllGood (more p ps) (marking m ms) = (IsExpressionOf true p → Good m) × AllGood ps ms
AllGood ps ms = Unit {0}

prefixed : (of : IntType) (o : Option Prefix) (t p : Syntax) (m : Mark) (e : Type 0) → PrefixOf o p e →
    (e → FitsAlone m) → WholeKind (kind_at m) →
    FitsIf of t (made_by_prefix o) (prefix_kind o (kind_at m)) (marking m unmarked)
prefixed of None t p m e h f i = absurd h
prefixed of (Some prefixes.Size) t p m e h f i = tt
prefixed of (Some (prefixes.Step op)) t p m e h f i = prefix_fits of (Some (prefixes.Step op)) t m i (f h)
prefixed of (Some (prefixes.Operator op)) t p m e h f i =
    prefix_fits of (Some (prefixes.Operator op)) t m i (f h)
prefixed of (Some prefixes.Address) t p m e h f i = prefix_fits of (Some prefixes.Address) t m i (f h)
prefixed of (Some prefixes.Content) t p m e h f i = prefix_fits of (Some prefixes.Content) t m i (f h)

behind_operand : (w : List ℕ) (e : Type 0) → PostfixOf true w e → e
behind_operand w e (inl h) = h.2
behind_operand w e (inr h) = h.1

alone_all : (ps : Forest) (form : Form) (all : Forest) (names : Names) (front : Bool) →
    AreExpressionsOf true ps → AllGood ps (marked_parts form all names front ps) →
    AllAlone (marked_parts form all names front ps)
unfolding marked_parts
alone_all none form all names front h g = tt
alone_all (more p ps) form all names front h g =
    ((g.0 h.0).operand, alone_all ps form all (later form all names front p) false h.1 g.1)

-- a node of that production with these parts
abbrev NodeMark : Names → Form → List ℕ → ℕ → ℕ → Forest → Mark
NodeMark names form w f l parts = mark (node form w f l parts)
    (kind_by names form w (marked_parts form parts (within form w names) true parts)) (marked_parts form parts (within form w names) true parts)

operand_node : (names : Names) (form : Form) (w : List ℕ) (f l : ℕ) (parts : Forest) →
    IsExpressionOf true (node form w f l parts) → WholeNames names →
    NoneRefused (NodeMark names form w f l parts) →
    AllGood parts (marked_parts form parts (within form w names) true parts) → FitsAlone (NodeMark names form w f l parts)
unfolding Fitting marked_parts kind_by made_in types_differ
operand_node names forms.NumberNode w f l none h n r g of = tt
operand_node names forms.TruthNode w f l none h n r g of = tt
operand_node names forms.VariableNode w f l none h n r g of =
    variable_fits of (node forms.VariableNode w f l none) (names (name_in w)) unmarked
operand_node names forms.ParenNode w f l (more a none) h n r g of =
    paren_fits of (node forms.ParenNode w f l (more a none)) (marked names a) (g.0 h).operand
operand_node names forms.ExprNode w f l (more a (more b none)) h n r g of =
    let parts = more a (more b none) in
    let ms = marked_parts forms.ExprNode parts names true parts in
    pointer_fits of (node forms.ExprNode w f l parts) (made_in forms.ExprNode w) (back_kind ms) ms
operand_node names forms.AssignNode w f l (more a (more b none)) h n r g of =
    let parts = more a (more b none) in
    let ms = marked_parts forms.AssignNode parts names true parts in
    pointer_fits of (node forms.AssignNode w f l parts) (made_in forms.AssignNode w) (front_kind ms) ms
operand_node names forms.CondNode w f l (more a (more b (more d none))) h n r g of = tt
operand_node names forms.OrNode w f l (more a (more b none)) h n r g of = tt
operand_node names forms.AndNode w f l (more a (more b none)) h n r g of = tt
operand_node names forms.BorNode w f l (more a (more b none)) h n r g of =
    let parts = more a (more b none) in
    let ms = marked_parts forms.BorNode parts names true parts in
    let m = marked names a in
    let p = marked (behind names a) b in
    let i = parts_whole forms.BorNode parts names true parts n in
    joined_fits of (binary_in w) (node forms.BorNode w f l parts) m p (not_false (fits (kind_at m) (kind_at p))
    (node_none r.0 (node forms.BorNode w f l parts) (kind_by names forms.BorNode w ms) ms r.1).2)
    (mark_whole m i.0) (mark_whole p i.1.0) (g.0 h.1).operand (g.1.0 h.2).operand
operand_node names forms.BxorNode w f l (more a (more b none)) h n r g of =
    let parts = more a (more b none) in
    let ms = marked_parts forms.BxorNode parts names true parts in
    let m = marked names a in
    let p = marked (behind names a) b in
    let i = parts_whole forms.BxorNode parts names true parts n in
    joined_fits of (binary_in w) (node forms.BxorNode w f l parts) m p (not_false (fits (kind_at m) (kind_at p))
    (node_none r.0 (node forms.BxorNode w f l parts) (kind_by names forms.BxorNode w ms) ms r.1).2)
    (mark_whole m i.0) (mark_whole p i.1.0) (g.0 h.1).operand (g.1.0 h.2).operand
operand_node names forms.BandNode w f l (more a (more b none)) h n r g of =
    let parts = more a (more b none) in
    let ms = marked_parts forms.BandNode parts names true parts in
    let m = marked names a in
    let p = marked (behind names a) b in
    let i = parts_whole forms.BandNode parts names true parts n in
    joined_fits of (binary_in w) (node forms.BandNode w f l parts) m p (not_false (fits (kind_at m) (kind_at p))
    (node_none r.0 (node forms.BandNode w f l parts) (kind_by names forms.BandNode w ms) ms r.1).2)
    (mark_whole m i.0) (mark_whole p i.1.0) (g.0 h.1).operand (g.1.0 h.2).operand
operand_node names forms.EqualNode w f l (more a (more b none)) h n r g of =
    let parts = more a (more b none) in
    let ms = marked_parts forms.EqualNode parts names true parts in
    let m = marked names a in
    let p = marked (behind names a) b in
    let i = parts_whole forms.EqualNode parts names true parts n in
    joined_fits of (binary_in w) (node forms.EqualNode w f l parts) m p (not_false (fits (kind_at m) (kind_at p))
    (node_none r.0 (node forms.EqualNode w f l parts) (kind_by names forms.EqualNode w ms) ms r.1).2)
    (mark_whole m i.0) (mark_whole p i.1.0) (g.0 h.1).operand (g.1.0 h.2).operand
operand_node names forms.OrderNode w f l (more a (more b none)) h n r g of =
    let parts = more a (more b none) in
    let ms = marked_parts forms.OrderNode parts names true parts in
    let m = marked names a in
    let p = marked (behind names a) b in
    let i = parts_whole forms.OrderNode parts names true parts n in
    joined_fits of (binary_in w) (node forms.OrderNode w f l parts) m p (not_false (fits (kind_at m) (kind_at p))
    (node_none r.0 (node forms.OrderNode w f l parts) (kind_by names forms.OrderNode w ms) ms r.1).2)
    (mark_whole m i.0) (mark_whole p i.1.0) (g.0 h.1).operand (g.1.0 h.2).operand
operand_node names forms.ShiftNode w f l (more a (more b none)) h n r g of =
    let parts = more a (more b none) in
    let ms = marked_parts forms.ShiftNode parts names true parts in
    let m = marked names a in
    let p = marked (behind names a) b in
    let i = parts_whole forms.ShiftNode parts names true parts n in
    joined_fits of (binary_in w) (node forms.ShiftNode w f l parts) m p (not_false (fits (kind_at m) (kind_at p))
    (node_none r.0 (node forms.ShiftNode w f l parts) (kind_by names forms.ShiftNode w ms) ms r.1).2)
    (mark_whole m i.0) (mark_whole p i.1.0) (g.0 h.1).operand (g.1.0 h.2).operand
operand_node names forms.SumNode w f l (more a (more b none)) h n r g of =
    let parts = more a (more b none) in
    let ms = marked_parts forms.SumNode parts names true parts in
    let m = marked names a in
    let p = marked (behind names a) b in
    let i = parts_whole forms.SumNode parts names true parts n in
    joined_fits of (binary_in w) (node forms.SumNode w f l parts) m p (not_false (fits (kind_at m) (kind_at p))
    (node_none r.0 (node forms.SumNode w f l parts) (kind_by names forms.SumNode w ms) ms r.1).2)
    (mark_whole m i.0) (mark_whole p i.1.0) (g.0 h.1).operand (g.1.0 h.2).operand
operand_node names forms.TermNode w f l (more a (more b none)) h n r g of =
    let parts = more a (more b none) in
    let ms = marked_parts forms.TermNode parts names true parts in
    let m = marked names a in
    let p = marked (behind names a) b in
    let i = parts_whole forms.TermNode parts names true parts n in
    joined_fits of (binary_in w) (node forms.TermNode w f l parts) m p (not_false (fits (kind_at m) (kind_at p))
    (node_none r.0 (node forms.TermNode w f l parts) (kind_by names forms.TermNode w ms) ms r.1).2)
    (mark_whole m i.0) (mark_whole p i.1.0) (g.0 h.1).operand (g.1.0 h.2).operand
operand_node names forms.CastNode w f l (more (node forms.TypeNode tw tf tl tps) (more a none)) h n r g of =
    let parts = more (node forms.TypeNode tw tf tl tps) (more a none) in
    cast_fits of w tw f l tf tl parts tps (kind_by names forms.TypeNode tw (marked_parts forms.TypeNode tps names
    true tps)) (marked_parts forms.TypeNode tps names true tps) (marked names a) r (g.1.0 h.1).inside
operand_node names forms.CastNode w f l (more t (more a none)) h n r g of = absurd h.0
operand_node names forms.UnaryNode w f l (more a none) h n r g of =
    let i = parts_whole forms.UnaryNode (more a none) names true (more a none) n in
    prefixed of (prefix_in w) (node forms.UnaryNode w f l (more a none)) a (marked names a) (IsExpressionOf true a) h
    (λ e. (g.0 e).operand) (mark_whole (marked names a) i.0)
operand_node names forms.PostfixNode w f l (more a none) h n r g of =
    postfix_fits of (selection_in w) (postfix_in w) (node forms.PostfixNode w f l (more a none)) (marked names a)
    unmarked refl (g.0 (behind_operand w (IsExpressionOf true a) h)).operand
operand_node names forms.PostfixNode w f l (more a (more b none)) h n r g of =
    postfix_fits of (selection_in w) (postfix_in w) (node forms.PostfixNode w f l (more a (more b none)))
    (marked names a) (marking (marked (behind names a) b) unmarked) refl (g.0 h.1).operand
operand_node names forms.CallNode w f l parts h n r g of =
    let inner = within forms.CallNode w names in
    let ms = marked_parts forms.CallNode parts inner true parts in
    let t = node forms.CallNode w f l parts in
    call_fits of t ms (node_none r.0 t (kind_by names forms.CallNode w ms) ms r.1).2
    (among_whole ms (parts_whole forms.CallNode parts inner true parts (within_whole forms.CallNode w names n)))
    (alone_all parts forms.CallNode parts inner true h g)
operand_node names form w f l parts h n r g of = absurd h

items_node : (names : Names) (form : Form) (w : List ℕ) (f l : ℕ) (parts : Forest) →
    IsExpressionOf true (node form w f l parts) → AllGood parts (marked_parts form parts (within form w names) true parts) →
    FitsAlone (NodeMark names form w f l parts) → (v : Vector) (n : ℕ) →
    items_given v (NodeMark names form w f l parts) ≡ Some n → Items v n (NodeMark names form w f l parts)
unfolding marked_parts
items_node names forms.ExprNode w f l (more a (more b none)) h g o v n e =
    let parts = more a (more b none) in
    comma_items w f l parts (kind_by names forms.ExprNode w (marked_parts forms.ExprNode parts names true parts))
    (marked names a) (marked (behind names a) b) v n (λ i d. (g.0 h.0).items v i d) (g.1.0 h.1).operand e
items_node names forms.ExprNode w f l parts h g o v n e = absurd h
items_node names form w f l parts h g o v n e =
    single_items (node form w f l parts) (kind_by names form w (marked_parts form parts (within form w names) true parts))
    (marked_parts form parts (within form w names) true parts) v n refl o e

inside_node : (names : Names) (form : Form) (w : List ℕ) (f l : ℕ) (parts : Forest) →
    IsExpressionOf true (node form w f l parts) → AllGood parts (marked_parts form parts (within form w names) true parts) →
    (v : Vector) → is_paren form ≡ true → inside_fills v (NodeMark names form w f l parts) ≡ true →
    InsideFits v.of v.count (NodeMark names form w f l parts)
unfolding marked_parts
inside_node names forms.ParenNode w f l (more a none) h g v p e =
    let parts = more a none in
    inside_fit (node forms.ParenNode w f l parts)
    (kind_by names forms.ParenNode w (marked_parts forms.ParenNode parts names true parts)) (marked names a) unmarked v
    (λ i d. (g.0 h).items v i d) e
inside_node names forms.ParenNode w f l parts h g v p e = absurd h
inside_node names form w f l parts h g v p e = absurd (false≢true p)

good_node : (names : Names) (form : Form) (w : List ℕ) (f l : ℕ) (parts : Forest) →
    IsExpressionOf true (node form w f l parts) → WholeNames names →
    NoneRefused (NodeMark names form w f l parts) →
    AllGood parts (marked_parts form parts (within form w names) true parts) → Good (NodeMark names form w f l parts)
good_node names form w f l parts h n r g =
    let o = operand_node names form w f l parts h n r g in record {
      operand = o;
      items = λ v i e. items_node names form w f l parts h g o v i e;
      inside = λ v p e. inside_node names form w f l parts h g v p e;
    }

-- ---- by the tree

mutual
  unfolding marked marked_parts

  -- an expression of which nothing is refused
  pub good : (t : Syntax) (names : Names) → IsExpressionOf true t → WholeNames names →
      NoneRefused (marked names t) → Good (marked names t)
  good (node form w f l parts) names h n r =
      let ms = marked_parts form parts (within form w names) true parts in
      let k = kind_by names form w ms in
      let t = node form w f l parts in
      good_node names form w f l parts h n r (all_good form parts (within form w names) true parts (within_whole form w names n)
      (parts_none r.0 (mark t k ms) true ms (node_none r.0 t k ms r.1).0))

  all_good : (form : Form) (all : Forest) (names : Names) (front : Bool) (ps : Forest) →
      WholeNames names →
      NoneOfAll (marked_parts form all names front ps) → AllGood ps (marked_parts form all names front ps)
  all_good form all names front none n r = tt
  all_good form all names front (more p ps) n r = (
    λ h. good p names h n r.0,
    all_good form all (later form all names front p) false ps (later_whole form all names front p n) r.1,
  )
