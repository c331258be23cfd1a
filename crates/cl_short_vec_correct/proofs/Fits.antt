-- A vector expression of which nothing is refused fits.
use Rattle.std.proofs.Common.{◌≡◌, ℕ, zero, suc, ◌<◌, nat_eq, nat_lt, List, [], ◌∷◌, ◌++◌, length, Option, None, Some}
use Rattle.std.proofs.Common.{Bool, true, false, not, ◌&&◌, if◌then◌else◌, refl, sym, ap, ◌∙◌, subst, arith}
use Rattle.std.proofs.lemmas.Bool.{false≢true}
use Rattle.std.proofs.lemmas.Bool.Decides.{nat_tests}
use Rattle.std.specs.Prelude.{slice_index}
use Rattle.wg_num.specs.declared.types.IntType.{IntType}
use Rattle.wg_num.specs.declared.types.IntType.TheVariants as types
use Rattle.wg_num.specs.declared.types.Bin.{Bin}
use Rattle.wg_num.specs.declared.types.Bin.TheVariants as bins
use Rattle.wg_num.specs.declared.types.Un.TheVariants as uns
use Rattle.wg_num.specs.Wrap.{is_bool, is_signed}
use Rattle.wg_num.specs.Types.{same_type}
use Rattle.wg_num.proofs.TypeLaws.{same_type_is}
use Rattle.cl_tree.specs.declared.tree.Form.{Form}
use Rattle.cl_tree.specs.declared.tree.Form.TheVariants as forms
use Rattle.cl_tree.specs.Syntax.{Syntax}
use Rattle.cl_meaning.specs.Operators.{binary_in, prefix_in}
use Rattle.cl_meaning.specs.Conversions.{is_comparison}
use Rattle.cl_meaning.specs.Declarations.{form_of, word_of}
use Rattle.cl_meaning.specs.declared.operators.Prefix.{Prefix}
use Rattle.cl_meaning.specs.declared.operators.Prefix.TheVariants as prefixes
use Rattle.cl_meaning.specs.declared.operators.Postfix.{Postfix}
use Rattle.cl_short_vec.specs.declared.types.Vector.{Vector}
use Rattle.cl_short_vec.specs.declared.kinds.Reach.TheVariants.{Value}
use Rattle.cl_short_vec.specs.declared.kinds.Kind.{Kind}
use Rattle.cl_short_vec.specs.declared.kinds.Kind.TheVariants.{Vectors, Pointer, Other}
use Rattle.cl_short_vec.specs.declared.made.Made.{Made}
use Rattle.cl_short_vec.specs.declared.made.Made.TheVariants as made
use Rattle.cl_short_vec.specs.declared.roles.Role.{Role}
use Rattle.cl_short_vec.specs.Types.{vector, same_vector, signed_of, selected, allowed, named_in, all_below, is_width}
use Rattle.cl_short_vec.specs.Kinds.{is_vector, value_of, compared, pointer_moved, joined_kind}
use Rattle.cl_short_vec.specs.Kinds.{prefix_kind, postfix_kind, several, selection_of, pointer_alone}
use Rattle.cl_short_vec.specs.Marks.{Mark, mark, Marks, unmarked, marking, kind_at}
use Rattle.cl_short_vec.specs.Faults.{misplaced, no_component, types_differ, least, refusals, refusals_in, is_end, fits}
use Rattle.cl_short_vec.specs.Roles.{role_of}
use Rattle.cl_short_vec.specs.Made.{made_in, made_by_prefix, made_by_selection, made_by_operator}
use Rattle.cl_short_vec.specs.Types.{selection_in}
use Rattle.cl_short_vec.specs.Order.{type_in, count_in}
use Rattle.cl_short_vec.specs.Parts.{chosen_at, selection_by, selected_at}
use Rattle.cl_short_vec_correct.proofs.Whole.{WholeKind}
use Rattle.cl_short_vec_correct.proofs.Trees.{GivesBy, Gives}
use Rattle.cl_short_vec_correct.proofs.Fitting.{type_by, Within, IsOperand, fits_by, Fitting, FrontFits}
use Rattle.cl_short_vec_correct.proofs.Fitting.{SecondFits, asked_of}
use Rattle.cl_short_vec_correct.proofs.Components.{within_operand}

-- ---- refusals

pub none_of : {A : Type 0} (xs ys : List A) → xs ++ ys ≡ [] → (xs ≡ []) × (ys ≡ [])
none_of [] ys h = (refl, h)
none_of (x ∷ xs) ys h = absurd cc

least_none : (token : ℕ) (a b c : Bool) → least token a b c ≡ [] → (a ≡ false) × (b ≡ false) × (c ≡ false)
least_none token true b c h = absurd cc
least_none token false true c h = absurd cc
least_none token false false true h = absurd cc
least_none token false false false h = (refl, refl, refl)

-- of a tree nothing is refused, wherever it stands
abbrev pub NoneRefused : Mark → Type 0
NoneRefused m = (role : Role) × (refusals role m ≡ [])

abbrev pub NoneOfAll : Marks → Type 0
NoneOfAll unmarked = Unit {0}
NoneOfAll (marking m ms) = NoneRefused m × NoneOfAll ms

pub parts_none : (role : Role) (m : Mark) (front : Bool) (ms : Marks) → refusals_in role m front ms ≡ [] → NoneOfAll ms
unfolding refusals_in
parts_none role m front unmarked h = tt
parts_none role m front (marking p ps) h =
    let r = role_of role m front (is_end ps) p in
    let d = none_of (refusals r p) (refusals_in role m false ps) h in
    ((r, d.0), parts_none role m false ps d.1)

pub node_none : (role : Role) (t : Syntax) (k : Kind) (ms : Marks) → refusals role (mark t k ms) ≡ [] →
    (refusals_in role (mark t k ms) true ms ≡ []) × (misplaced role t k ≡ false) × (types_differ role t k ms ≡ false)
unfolding refusals
node_none role t k ms h =
    let d = none_of (refusals_in role (mark t k ms) true ms) _ h in
    let l = least_none _ (misplaced role t k) (no_component role (mark t k ms)) (types_differ role t k ms) d.1 in
    (d.0, l.0, l.2)

-- ---- tests

pub not_false : (b : Bool) → not b ≡ false → b ≡ true
not_false true h = refl
not_false false h = absurd (false≢true (sym h))

pub both_true : (a b : Bool) → (a && b) ≡ true → (a ≡ true) × (b ≡ true)
both_true true b e = (refl, e)
both_true false b e = absurd (false≢true e)

-- ---- operands

-- a vector of that type, or no vector
abbrev pub Suits : Vector → Kind → Type 0
Suits v (Vectors u r) = (u.of ≡ v.of) × (u.count ≡ v.count)
Suits v k = Unit {0}

pub same_parts : (v u : Vector) → same_vector v u ≡ true → (u.of ≡ v.of) × (u.count ≡ v.count)
same_parts v u h = let b = both_true (same_type v.of u.of) (nat_eq v.count u.count) h in
    (sym (same_type_is v.of u.of b.0), grind (arith, nat_tests))

by_prefix : (o : Option Prefix) (of : IntType) (k : Kind) → type_by (made_by_prefix o) of k ≡ type_in k
by_prefix (Some (prefixes.Operator op)) of k = refl
by_prefix _ of k = refl

by_selection : (o : Option (List ℕ)) (of : IntType) (k : Kind) → type_by (made_by_selection o) of k ≡ type_in k
by_selection (Some name) of k = refl
by_selection None of k = refl

by_operator : (o : Option Bin) (of : IntType) (k : Kind) → type_by (made_by_operator o) of k ≡ type_in k
by_operator (Some op) of k = refl
by_operator None of k = refl

pub type_made : (form : Form) (w : List ℕ) (of : IntType) (k : Kind) → type_by (made_in form w) of k ≡ type_in k
unfolding made_in
type_made forms.VariableNode w of k = refl
type_made forms.ParenNode w of k = refl
type_made forms.UnaryNode w of k = by_prefix (prefix_in w) of k
type_made forms.PostfixNode w of k = by_selection (selection_in w) of k
type_made forms.CallNode w of k = refl
type_made forms.CastNode w of k = refl
type_made _ w of k = by_operator (binary_in w) of k

-- a part that fits by itself
abbrev pub FitsAlone : Mark → Type 0
FitsAlone m = (of : IntType) → Fitting false of m

abbrev pub IsFit : Vector → (at : ℕ → ℕ) → ℕ → Mark → Type 0
IsFit v at n m = IsOperand (Fitting false v.of m) false v.of at n m

pub operand_fits : (m : Mark) (v : Vector) → Suits v (kind_at m) → FitsAlone m →
    IsFit v (λ c. c) v.count m
operand_fits (mark t (Vectors u r) ms) v s f = (
  f v.of,
  type_made (form_of t) (word_of t) v.of (Vectors u r) ∙ s.0,
  λ c l. within_operand (mark t (Vectors u r) ms) c (subst (λ z. c < z) (sym s.1) l),
)
operand_fits (mark t (Pointer s c u) ms) v h f = (f v.of, refl, λ c l. tt)
operand_fits (mark t (Other b) ms) v h f = (f v.of, refl, λ c l. tt)

-- ---- leaves, and what is no vector

-- what is asked of a node that is made so where it is a vector
abbrev pub FitsIf : IntType → Syntax → Made → Kind → Marks → Type 0
FitsIf of t how k ms = fits_by (if is_vector k then how else made.Number) t k ms (asked_of of k ms)

no_vector : (of : IntType) (t : Syntax) (how : Made) (k : Kind) (ms : Marks) → is_vector k ≡ false →
    FitsIf of t how k ms
no_vector of t how k ms h =
    subst (λ b. fits_by (if b then how else made.Number) t k ms (asked_of of k ms)) (sym h) tt

pub element_fits : (of : IntType) (t : Syntax) (k : Kind) (ms : Marks) →
    FitsIf of t made.Element k ms
element_fits of t k ms = by (is_vector k)
  where
    by : (b : Bool) → fits_by (if b then made.Element else made.Number) t k ms (asked_of of k ms)
    by true = tt
    by false = tt

pub variable_fits : (of : IntType) (t : Syntax) (k : Kind) (ms : Marks) →
    FitsIf of t made.Variable k ms
variable_fits of t k ms = by (is_vector k)
  where
    by : (b : Bool) → fits_by (if b then made.Variable else made.Number) t k ms (asked_of of k ms)
    by true = tt
    by false = tt

pub pointer_fits : (of : IntType) (t : Syntax) (how : Made) (k : Kind) (ms : Marks) →
    FitsIf of t how (pointer_alone k) ms
pointer_fits of t how (Vectors v r) ms = tt
pointer_fits of t how (Pointer s c v) ms = tt
pointer_fits of t how (Other b) ms = tt

-- ---- parentheses, prefixes and selections

pub paren_fits : (of : IntType) (t : Syntax) (m : Mark) → FitsAlone m →
    FitsIf of t made.Inside (kind_at m) (marking m unmarked)
unfolding FrontFits
paren_fits of t (mark u (Vectors v r) ms) f = (refl, operand_fits (mark u (Vectors v r) ms) v (refl, refl) f)
paren_fits of t (mark u (Pointer s c v) ms) f = tt
paren_fits of t (mark u (Other b) ms) f = tt

pub prefix_fits : (of : IntType) (o : Option Prefix) (t : Syntax) (m : Mark) → WholeKind (kind_at m) →
    FitsAlone m → FitsIf of t (made_by_prefix o) (prefix_kind o (kind_at m)) (marking m unmarked)
unfolding FrontFits
prefix_fits of (Some (prefixes.Operator uns.Not)) t m h f = tt
prefix_fits of (Some (prefixes.Operator uns.Plus)) t (mark u (Vectors v r) ms) h f =
    (refl, h, operand_fits (mark u (Vectors v r) ms) v (refl, refl) f)
prefix_fits of (Some (prefixes.Operator uns.Minus)) t (mark u (Vectors v r) ms) h f =
    (refl, h, operand_fits (mark u (Vectors v r) ms) v (refl, refl) f)
prefix_fits of (Some (prefixes.Operator uns.Flip)) t (mark u (Vectors v r) ms) h f =
    (refl, h, operand_fits (mark u (Vectors v r) ms) v (refl, refl) f)
prefix_fits of (Some (prefixes.Operator op)) t (mark u (Pointer s c v) ms) h f = tt
prefix_fits of (Some (prefixes.Operator op)) t (mark u (Other b) ms) h f = tt
prefix_fits of o t m h f = element_fits of t (prefix_kind o (kind_at m)) (marking m unmarked)

below_by : (n : ℕ) (o : Option (List ℕ)) (ks : List ℕ) → allowed n o ≡ Some ks → all_below n ks ≡ true
below_by n None ks h = absurd cc
below_by n (Some js) ks h = by (all_below n js) refl (is_width (length js)) h
  where
    by : (b : Bool) → all_below n js ≡ b → (w : Bool) → (if b && w then Some js else None) ≡ Some ks →
        all_below n ks ≡ true
    by true e true g = let same : js ≡ ks = cc in ap (all_below n) (sym same) ∙ e
    by true e false g = absurd cc
    by false e w g = absurd cc

index_below : (n : ℕ) (ks : List ℕ) (c : ℕ) → all_below n ks ≡ true → c < length ks → slice_index ks c < n
index_below n [] c h l = absurd (omega arith)
index_below n (k ∷ ks) zero h l =
    let b = both_true (nat_lt k n) (all_below n ks) h in grind (arith, nat_tests)
index_below n (k ∷ ks) (suc c) h l =
    index_below n ks c (both_true (nat_lt k n) (all_below n ks) h).1 (omega arith)

-- the components that a name selects are there
selected_within : (n : ℕ) (name ks : List ℕ) (c : ℕ) → selected n name ≡ Some ks → c < length ks →
    slice_index ks c < n
unfolding selected
selected_within n name ks c h l = index_below n ks c (below_by n (named_in n name) ks h) l

selection_fits : (of : IntType) (t : Syntax) (name : List ℕ) (m : Mark) (others : Marks) →
    selection_in (word_of t) ≡ Some name → FitsAlone m →
    FitsIf of t made.Selected (selection_of (kind_at m) name) (marking m others)
unfolding FrontFits
selection_fits of t name (mark u (Pointer s c v) ms) others e f = tt
selection_fits of t name (mark u (Other b) ms) others e f = tt
selection_fits of t name (mark u (Vectors v r) ms) others e f = by (selected v.count name) refl
  where
    m : Mark
    m = mark u (Vectors v r) ms

    each : (ks : List ℕ) → selected v.count name ≡ Some ks → (c : ℕ) → c < length ks →
        Within false m (selected_at t (marking m others) c)
    each ks h c l = subst (λ z. Within false m (chosen_at (selection_by z (Vectors v r)) c)) (sym e)
        (subst (λ z. Within false m (chosen_at z c)) (sym h)
        (within_operand m (slice_index ks c) (selected_within v.count name ks c h l)))

    one : (ks : List ℕ) → selected v.count name ≡ Some ks → (b : Bool) →
        FitsIf of t made.Selected (if b then (Other true) else Vectors (vector v.of (length ks)) r) (marking m others)
    one ks h true = tt
    one ks h false = (refl, (f v.of, type_made (form_of u) (word_of u) v.of (Vectors v r), each ks h))

    by : (o : Option (List ℕ)) → selected v.count name ≡ o →
        FitsIf of t made.Selected (several v r o) (marking m others)
    by None h = tt
    by (Some ks) h = one ks h (nat_eq (length ks) 1)

pub postfix_fits : (of : IntType) (s : Option (List ℕ)) (o : Option Postfix) (t : Syntax) (m : Mark)
    (others : Marks) → selection_in (word_of t) ≡ s → FitsAlone m →
    FitsIf of t (made_by_selection s) (postfix_kind s o (kind_at m)) (marking m others)
postfix_fits of None o t m others e f = element_fits of t (postfix_kind None o (kind_at m)) (marking m others)
postfix_fits of (Some name) o t m others e f = selection_fits of t name m others e f

-- ---- operators between two operands

signed_is : (of : IntType) → is_bool of ≡ false → is_signed (signed_of of) ≡ true
signed_is types.Bool h = absurd (false≢true (sym h))
signed_is types.Char h = refl
signed_is types.Uchar h = refl
signed_is types.Short h = refl
signed_is types.Ushort h = refl
signed_is types.Int h = refl
signed_is types.Uint h = refl
signed_is types.Long h = refl
signed_is types.Ulong h = refl

-- the vector that two operands show, and what an operator makes of it
record Shows (op : Bin) (j k : Kind) : Type 0 where
  value : Vector
  among : (if is_vector j then value_of j else (if is_vector k then value_of k else (Other true))) ≡ Vectors value Value
  first : Suits value j
  second : Suits value k
  whole : is_bool value.of ≡ false
  joined : joined_kind (Some op) j k ≡ compared op (Vectors value Value)

moved_no_vector : (op : Bin) (j k : Kind) → is_vector (pointer_moved op j k) ≡ false
moved_no_vector bins.Add (Pointer s c v) (Other b) = refl
moved_no_vector bins.Add (Other b) (Pointer s c v) = refl
moved_no_vector bins.Sub (Pointer s c v) (Other b) = refl
moved_no_vector op j k = refl

shows : (op : Bin) (j k : Kind) → is_vector (joined_kind (Some op) j k) ≡ true → fits j k ≡ true → WholeKind j →
    WholeKind k → Shows op j k
shows op (Vectors v r) (Vectors u s) e f h i = record {
  value = v;
  among = refl;
  first = (refl, refl);
  second = same_parts v u f;
  whole = h;
  joined = refl;
}
shows op (Vectors v r) (Pointer s c u) e f h i =
    record { value = v; among = refl; first = (refl, refl); second = tt; whole = h; joined = refl }
shows op (Vectors v r) (Other b) e f h i =
    record { value = v; among = refl; first = (refl, refl); second = tt; whole = h; joined = refl }
shows op (Pointer s c u) (Vectors v r) e f h i =
    record { value = v; among = refl; first = tt; second = (refl, refl); whole = i; joined = refl }
shows op (Other b) (Vectors v r) e f h i =
    record { value = v; among = refl; first = tt; second = (refl, refl); whole = i; joined = refl }
shows op (Pointer s c u) (Pointer p q v) e f h i =
    absurd (false≢true (sym (moved_no_vector op (Pointer s c u) (Pointer p q v)) ∙ e))
shows op (Pointer s c u) (Other b) e f h i =
    absurd (false≢true (sym (moved_no_vector op (Pointer s c u) (Other b)) ∙ e))
shows op (Other b) (Pointer s c u) e f h i =
    absurd (false≢true (sym (moved_no_vector op (Other b) (Pointer s c u)) ∙ e))
shows op (Other b) (Other y) e f h i = absurd (false≢true (sym (moved_no_vector op (Other b) (Other y)) ∙ e))

-- the result of an operator on components of a vector
compared_gives : (op : Bin) (v : Vector) → is_bool v.of ≡ false →
    Gives op v.of (type_in (compared op (Vectors v Value))) × (count_in (compared op (Vectors v Value)) ≡ v.count)
compared_gives op v h = by (is_comparison op)
  where
    by : (b : Bool) →
        GivesBy b v.of (type_in (if b then Vectors (vector (signed_of v.of) v.count) Value else Vectors v Value)) ×
        (count_in (if b then Vectors (vector (signed_of v.of) v.count) Value else Vectors v Value) ≡ v.count)
    by true = (signed_is v.of h, refl)
    by false = (refl, refl)

pub joined_fits : (of : IntType) (o : Option Bin) (t : Syntax) (a b : Mark) →
    fits (kind_at a) (kind_at b) ≡ true → WholeKind (kind_at a) → WholeKind (kind_at b) → FitsAlone a →
    FitsAlone b →
    FitsIf of t (made_by_operator o) (joined_kind o (kind_at a) (kind_at b)) (marking a (marking b unmarked))
unfolding FrontFits SecondFits
joined_fits of None t a b e h i f g = tt
joined_fits of (Some op) t a b e h i f g = by (is_vector k) refl
  where
    k : Kind
    k = joined_kind (Some op) (kind_at a) (kind_at b)

    ms : Marks
    ms = marking a (marking b unmarked)

    by : (c : Bool) → is_vector k ≡ c →
        fits_by (if c then made.Joined op else made.Number) t k ms (asked_of of k ms)
    by false x = tt
    by true x =
        let s = shows op (kind_at a) (kind_at b) x e h i in
        let g2 = compared_gives op s.value s.whole in
        subst (λ z. (is_bool (type_in z) ≡ false) × Gives op (type_in z) (type_in k) ×
        IsOperand (Fitting false (type_in z) a) false (type_in z) (λ c. c) (count_in k) a ×
        IsOperand (Fitting false (type_in z) b) false (type_in z) (λ c. c) (count_in k) b) (sym s.among)
        (subst (λ z. (is_bool s.value.of ≡ false) × Gives op s.value.of (type_in z) ×
        IsFit s.value (λ c. c) (count_in z) a × IsFit s.value (λ c. c) (count_in z) b) (sym s.joined)
        (subst (λ n. (is_bool s.value.of ≡ false) ×
        Gives op s.value.of (type_in (compared op (Vectors s.value Value))) × IsFit s.value (λ c. c) n a ×
        IsFit s.value (λ c. c) n b) (sym g2.1)
        (s.whole, g2.0, operand_fits a s.value s.first f, operand_fits b s.value s.second g)))
