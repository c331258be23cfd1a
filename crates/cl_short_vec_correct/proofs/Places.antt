-- A place, to which a vector is assigned: its kind, what is under it, and its components.
use Rattle.std.proofs.Common.{◌≡◌, ℕ, zero, suc, ◌+◌, ◌<◌, ◌≤◌, nat_eq, nat_lt, List, [], ◌∷◌, ◌++◌, length}
use Rattle.std.proofs.Common.{Option, None}
use Rattle.std.proofs.Common.{Some, Bool, true, false, not, ◌&&◌, if◌then◌else◌, refl, ap, sym, ◌∙◌, subst, ◌⊎◌, inl}
use Rattle.std.proofs.Common.{inr, arith}
use Rattle.std.proofs.lemmas.Bool.{false≢true}
use Rattle.std.proofs.lemmas.Bool.Decides.{nat_tests}
use Rattle.std.specs.Prelude.{slice_index}
use Rattle.wg_num.specs.declared.types.Bin.{Bin}
use Rattle.wg_num.specs.declared.types.Bin.TheVariants as bins
use Rattle.wg_num.specs.declared.types.Un.TheVariants as uns
use Rattle.cl_model.specs.Lists.{Each}
use Rattle.cl_tree.specs.declared.tree.Form.{Form}
use Rattle.cl_tree.specs.declared.tree.Form.TheVariants as forms
use Rattle.cl_tree.specs.Syntax.{Syntax, node, Forest, first_of}
use Rattle.cl_meaning.specs.Spelling.{name_in, binary_in, prefix_in, intrinsic_in}
use Rattle.cl_meaning.specs.Conversions.{is_comparison}
use Rattle.cl_meaning.specs.declared.operators.Prefix.{Prefix}
use Rattle.cl_meaning.specs.declared.operators.Prefix.TheVariants as prefixes
use Rattle.cl_meaning.specs.declared.names.Intrinsic.{Intrinsic}
use Rattle.cl_meaning.specs.declared.names.Intrinsic.TheVariants as intrinsics
use Rattle.cl_meaning.specs.Kinds.{is_some}
use Rattle.cl_check_sound.specs.Shape.{is_expression, IsExpressionOf}
use Rattle.cl_short_vec.specs.declared.types.Vector.{Vector}
use Rattle.cl_short_vec.specs.declared.kinds.Reach.{Reach}
use Rattle.cl_short_vec.specs.declared.kinds.Reach.TheVariants.{Value, Variable, Element}
use Rattle.cl_short_vec.specs.declared.kinds.Kind.{Kind}
use Rattle.cl_short_vec.specs.declared.kinds.Kind.TheVariants.{Vectors, Pointer, Other}
use Rattle.cl_short_vec.specs.declared.roles.Role.{Role}
use Rattle.cl_short_vec.specs.declared.roles.Role.TheVariants.{Target}
use Rattle.cl_short_vec.specs.Types.{vector, selection_in, numbers, all_below, is_width, allowed, named_in, selected}
use Rattle.cl_short_vec.specs.Types.{picked, signed_of}
use Rattle.cl_short_vec.specs.Kinds.{Names, within, is_vector, value_of, first_vector, pointer_alone, several, selection_of}
use Rattle.cl_short_vec.specs.Kinds.{compared, pointer_moved, joined_kind, prefix_kind, called_kind, cast_kind}
use Rattle.cl_short_vec.specs.Kinds.{is_operator}
use Rattle.cl_short_vec.specs.Marks.{mark, Marks, unmarked, marking, kind_at, vector_among, front_type}
use Rattle.cl_short_vec.specs.Marks.{front_kind, back_kind, kind_by, marked, marked_parts}
use Rattle.cl_short_vec.specs.Roles.{is_place}
use Rattle.cl_short_vec.specs.Faults.{all_of, selected_in, chosen, picked_by, components_by, components_of}
use Rattle.cl_short_vec.specs.Faults.{misplaced_kind, misplaced, no_component, types_differ, least, refusals}
use Rattle.cl_short_vec.specs.Faults.{refusals_in}
use Rattle.cl_short_vec.specs.Made.{made_by_prefix, made_by_selection, made_in}
use Rattle.cl_short_vec.specs.Order.{type_in, count_in, is_through, under}
use Rattle.cl_short_vec_correct.proofs.Making.{is_variable_made, is_element_made, expression_form}

-- ---- kinds of places

pub place_vector : (k : Kind) → is_place k ≡ true → is_vector k ≡ true
place_vector (Vectors v r) h = refl
place_vector (Pointer s c v) h = absurd (false≢true h)
place_vector (Other b) h = absurd (false≢true h)

value_no_place : (k : Kind) → is_place (value_of k) ≡ false
value_no_place (Vectors v r) = refl
value_no_place (Pointer s c v) = refl
value_no_place (Other b) = refl

alone_no_place : (k : Kind) → is_place (pointer_alone k) ≡ false
alone_no_place (Vectors v r) = refl
alone_no_place (Pointer s c v) = refl
alone_no_place (Other y) = refl

either_no_place : (b : Bool) (j k : Kind) → is_place j ≡ false → is_place k ≡ false →
    is_place (if b then j else k) ≡ false
either_no_place true j k h i = h
either_no_place false j k h i = i

first_no_place : (j k : Kind) → is_place (first_vector j k) ≡ false
first_no_place j k =
    either_no_place (is_vector j) (value_of j) (value_of k) (value_no_place j) (value_no_place k)

-- the reach of a vector tells
reach_place : (v u : Vector) (r : Reach) → is_place (Vectors v r) ≡ is_place (Vectors u r)
reach_place v u Value = refl
reach_place v u Variable = refl
reach_place v u (Element s c) = refl

compared_place : (op : Bin) (k : Kind) → is_place (compared op k) ≡ is_place k
compared_place op (Vectors v r) = by (is_comparison op)
  where
    by : (b : Bool) → is_place (if b then Vectors (vector (signed_of v.of) v.count) r else Vectors v r) ≡
        is_place (Vectors v r)
    by true = reach_place (vector (signed_of v.of) v.count) v r
    by false = refl
compared_place op (Pointer s c v) = refl
compared_place op (Other b) = refl

moved_no_place : (op : Bin) (j k : Kind) → is_place (pointer_moved op j k) ≡ false
moved_no_place bins.Add (Pointer s c v) (Other b) = refl
moved_no_place bins.Add (Other b) (Pointer s c v) = refl
moved_no_place bins.Sub (Pointer s c v) (Other b) = refl
moved_no_place op j k = refl

joined_no_place : (o : Option Bin) (j k : Kind) → is_place (joined_kind o j k) ≡ false
joined_no_place None j k = refl
joined_no_place (Some op) j k =
    either_no_place (is_vector (first_vector j k)) (compared op (first_vector j k)) (pointer_moved op j k)
    (compared_place op (first_vector j k) ∙ first_no_place j k) (moved_no_place op j k)

called_no_place : (i : Option Intrinsic) (k : Kind) → is_place (called_kind i k) ≡ false
called_no_place (Some (intrinsics.Function g)) (Vectors v r) = refl
called_no_place i k = refl

cast_no_place : (o : Option Vector) → is_place (cast_kind o) ≡ false
cast_no_place None = refl
cast_no_place (Some v) = refl

prefixed_place : (o : Option Prefix) (k : Kind) → is_place (prefix_kind o k) ≡ true →
    is_element_made (made_by_prefix o) ≡ true
prefixed_place (Some (prefixes.Operator uns.Not)) k h = absurd (false≢true h)
prefixed_place (Some (prefixes.Operator uns.Plus)) k h = absurd (false≢true (sym (value_no_place k) ∙ h))
prefixed_place (Some (prefixes.Operator uns.Minus)) k h = absurd (false≢true (sym (value_no_place k) ∙ h))
prefixed_place (Some (prefixes.Operator uns.Flip)) k h = absurd (false≢true (sym (value_no_place k) ∙ h))
prefixed_place o k h = refl

unselected_place : (o : Option (List ℕ)) → is_some o ≡ false → is_element_made (made_by_selection o) ≡ true
unselected_place None h = refl
unselected_place (Some name) h = absurd (false≢true (sym h))

-- a place, parentheses and selections aside, is a variable or an element
pub place_made : (form : Form) (w : List ℕ) (f l : ℕ) (ps : Forest) (names : Names) (ms : Marks) →
    is_place (kind_by names form w ms) ≡ true → is_through (node form w f l ps) ≡ false →
    (is_variable_made (made_in form w) ≡ true) ⊎ (is_element_made (made_in form w) ≡ true)
unfolding made_in kind_by
place_made forms.VariableNode w f l ps names ms h t = inl refl
place_made forms.ParenNode w f l ps names ms h t = absurd (false≢true (sym t))
place_made forms.UnaryNode w f l ps names ms h t = inr (prefixed_place (prefix_in w) (front_kind ms) h)
place_made forms.PostfixNode w f l ps names ms h t = inr (unselected_place (selection_in w) t)
place_made forms.CallNode w f l ps names ms h t =
    absurd (false≢true (sym (called_no_place (intrinsic_in (name_in w)) (vector_among ms)) ∙ h))
place_made forms.CastNode w f l ps names ms h t = absurd (false≢true (sym (cast_no_place (front_type ms)) ∙ h))
place_made forms.ExprNode w f l ps names ms h t = absurd (false≢true (sym (alone_no_place (back_kind ms)) ∙ h))
place_made forms.AssignNode w f l ps names ms h t = absurd (false≢true (sym (alone_no_place (front_kind ms)) ∙ h))
place_made form w f l ps names ms h t = absurd (false≢true (sym (either_no_place (is_operator form)
    (joined_kind (binary_in w) (front_kind ms) (back_kind ms)) (Other true)
    (joined_no_place (binary_in w) (front_kind ms) (back_kind ms)) refl) ∙ h))

-- ---- what is under it

pub under_self : (t : Syntax) (k : Kind) (ms : Marks) → is_through t ≡ false → under (mark t k ms) ≡ mark t k ms
unfolding under
under_self t k unmarked h = refl
under_self t k (marking a others) h = ap (λ b. if b then under a else mark t k (marking a others)) h

unselected : (o : Option (List ℕ)) (k j : Kind) (ks : List ℕ) → is_some o ≡ false → picked_by o k j ks ≡ all_of k
unselected None k j ks h = refl
unselected (Some name) k j ks h = absurd (false≢true (sym h))

whole_by : (form : Form) (w : List ℕ) (f l : ℕ) (ps : Forest) (k j : Kind) (ks : List ℕ) →
    is_through (node form w f l ps) ≡ false → components_by form w k j ks ≡ all_of k
whole_by forms.ParenNode w f l ps k j ks h = absurd (false≢true (sym h))
whole_by forms.PostfixNode w f l ps k j ks h = unselected (selection_in w) k j ks h
whole_by form w f l ps k j ks h = refl

pub components_whole : (form : Form) (w : List ℕ) (f l : ℕ) (ps : Forest) (k : Kind) (ms : Marks) →
    is_through (node form w f l ps) ≡ false → components_of (mark (node form w f l ps) k ms) ≡ all_of k
unfolding components_of
components_whole form w f l ps k unmarked h = refl
components_whole form w f l ps k (marking a others) h =
    whole_by form w f l ps k (kind_at a) (components_of a) h

-- ---- components

abbrev pub AllUnder : ℕ → List ℕ → Type 0
AllUnder n cs = Each (λ c. c < n) cs

numbers_under : (first n m : ℕ) → first + n ≤ m → AllUnder m (numbers first 1 n)
numbers_under first zero m h = tt
numbers_under first (suc n) m h = (omega arith, numbers_under (first + 1) n m (omega arith))

pub all_under : (k : Kind) → AllUnder (count_in k) (all_of k)
all_under (Vectors v r) = numbers_under 0 v.count v.count (omega arith)
all_under (Pointer s c v) = tt
all_under (Other b) = tt

numbers_many : (first n : ℕ) → length (numbers first 1 n) ≡ n
numbers_many first zero = refl
numbers_many first (suc n) = ap suc (numbers_many (first + 1) n)

pub all_many : (k : Kind) → is_vector k ≡ true → length (all_of k) ≡ count_in k
all_many (Vectors v r) h = numbers_many 0 v.count
all_many (Pointer s c v) h = absurd (false≢true h)
all_many (Other y) h = absurd (false≢true h)

both : (a b : Bool) → a && b ≡ true → (a ≡ true) × (b ≡ true)
both true b e = (refl, e)
both false b e = absurd (false≢true e)

abbrev BelowIn : ℕ → Option (List ℕ) → Type 0
BelowIn n None = Unit {0}
BelowIn n (Some ks) = all_below n ks ≡ true

-- a selection picks among the components that are there
selected_below : (n : ℕ) (name : List ℕ) → BelowIn n (selected n name)
unfolding selected
selected_below n name = by (named_in n name)
  where
    tested : (ks : List ℕ) (b : Bool) → all_below n ks && is_width (length ks) ≡ b →
        BelowIn n (if b then Some ks else None)
    tested ks true e = (both (all_below n ks) (is_width (length ks)) e).0
    tested ks false e = tt

    by : (o : Option (List ℕ)) → BelowIn n (allowed n o)
    by None = tt
    by (Some ks) = tested ks (all_below n ks && is_width (length ks)) refl

index_under : (m : ℕ) (ks : List ℕ) (j : ℕ) → AllUnder m ks → j < length ks → slice_index ks j < m
index_under m [] j h l = absurd (omega arith)
index_under m (k ∷ ks) zero h l = h.0
index_under m (k ∷ ks) (suc j) h l = index_under m ks j h.1 (omega arith)

picked_under : (m n : ℕ) (ks js : List ℕ) → AllUnder m ks → length ks ≡ n → all_below n js ≡ true →
    AllUnder m (picked ks js)
picked_under m n ks [] h e b = tt
picked_under m n ks (j ∷ js) h e b =
    let g = both (nat_lt j n) (all_below n js) b in
    (index_under m ks j h (under_length g.0), picked_under m n ks js h e g.1)
  where
    under_length : nat_lt j n ≡ true → j < length ks
    under_length i = let less : j < n = grind (arith, nat_tests) in subst (λ z. j < z) (sym e) less

picked_many : (ks js : List ℕ) → length (picked ks js) ≡ length js
picked_many ks [] = refl
picked_many ks (j ∷ js) = ap suc (picked_many ks js)

-- a selection that is a place is one of a place of that type, and so many of its components
pub record IsSelection (m : ℕ) (j k : Kind) (ks : List ℕ) : Type 0 where
  pub place : is_place j ≡ true
  pub typed : type_in j ≡ type_in k
  pub below : AllUnder m ks
  pub many : length ks ≡ count_in k

pub selection_is : (m : ℕ) (j : Kind) (name ks : List ℕ) → is_place (selection_of j name) ≡ true →
    (is_place j ≡ true → AllUnder m ks × (length ks ≡ count_in j)) →
    IsSelection m j (selection_of j name) (chosen (selected_in j name) ks)
selection_is m (Pointer s c v) name ks p h = absurd (false≢true p)
selection_is m (Other y) name ks p h = absurd (false≢true p)
selection_is m (Vectors v r) name ks p h = by (selected v.count name) (selected_below v.count name) p
  where
    found : (js : List ℕ) (b : Bool) → all_below v.count js ≡ true →
        is_place (if b then (Other true) else Vectors (vector v.of (length js)) r) ≡ true →
        IsSelection m (Vectors v r) (if b then (Other true) else Vectors (vector v.of (length js)) r) (picked ks js)
    found js true e q = absurd (false≢true q)
    found js false e q =
        let place = reach_place v (vector v.of (length js)) r ∙ q in
        let g = h place in record {
          place = place;
          typed = refl;
          below = picked_under m v.count ks js g.0 g.1 e;
          many = picked_many ks js;
        }

    by : (o : Option (List ℕ)) → BelowIn v.count o → is_place (several v r o) ≡ true →
        IsSelection m (Vectors v r) (several v r o) (chosen o ks)
    by None e q = absurd (false≢true q)
    by (Some js) e q = found js (nat_eq (length js) 1) e q

-- ---- no refusal

nothing_behind : {A : Type 0} (xs ys : List A) → xs ++ ys ≡ [] → ys ≡ []
nothing_behind [] ys h = h
nothing_behind (x ∷ xs) ys h = absurd cc

none_misplaced : (token : ℕ) (a b c : Bool) → least token a b c ≡ [] → a ≡ false
none_misplaced token true b c h = absurd cc
none_misplaced token false b c h = refl

misplaced_by : (role : Role) (form : Form) (w : List ℕ) (f l : ℕ) (ps : Forest) (k : Kind) →
    is_expression form ≡ true → misplaced role (node form w f l ps) k ≡ misplaced_kind role k
unfolding misplaced
misplaced_by role forms.TypeNode w f l ps k h = absurd (false≢true h)
misplaced_by role forms.DeclaratorNode w f l ps k h = absurd (false≢true h)
misplaced_by role forms.ListNode w f l ps k h = absurd (false≢true h)
misplaced_by role form w f l ps k h = refl

vector_place : (k : Kind) → is_vector k ≡ true → misplaced_kind Target k ≡ false → is_place k ≡ true
vector_place k v h = by (is_place k) (sym (ap (λ b. b && not (is_place k)) v) ∙ h)
  where
    by : (b : Bool) → not b ≡ false → b ≡ true
    by true g = refl
    by false g = absurd (false≢true (sym g))

-- a target that is not refused is a place
pub target_place : (t : Syntax) (names : Names) → IsExpressionOf true t → refusals Target (marked names t) ≡ [] →
    is_vector (kind_at (marked names t)) ≡ true → is_place (kind_at (marked names t)) ≡ true
unfolding marked marked_parts refusals refusals_in
target_place (node form w f l parts) names h r v =
    let t = node form w f l parts in
    let ms = marked_parts form parts (within form w names) true parts in
    let k = kind_by names form w ms in
    let at = nothing_behind (refusals_in Target (mark t k ms) true ms) (least (first_of t) (misplaced Target t k)
    (no_component Target (mark t k ms)) (types_differ Target t k ms)) r in
    vector_place k v (sym (misplaced_by Target form w f l parts k (expression_form t h)) ∙
    none_misplaced (first_of t) (misplaced Target t k) (no_component Target (mark t k ms))
    (types_differ Target t k ms) at)
