-- Kinds of places: what is one, and which components selections of one pick.
use Rattle.std.proofs.Common.{◌≡◌, ℕ, zero, suc, ◌+◌, ◌<◌, ◌≤◌, nat_eq, nat_lt, List, [], ◌∷◌, length, Option, None}
use Rattle.std.proofs.Common.{Some}
use Rattle.std.proofs.Common.{Bool, true, false, ◌&&◌, if◌then◌else◌, refl, sym, ap, ◌∙◌, subst, arith}
use Rattle.std.proofs.lemmas.Bool.{false≢true}
use Rattle.std.proofs.lemmas.Bool.Decides.{nat_tests}
use Rattle.std.specs.Prelude.{slice_index}
use Rattle.wg_num.specs.declared.types.Bin.{Bin}
use Rattle.wg_num.specs.declared.types.Bin.TheVariants as bins
use Rattle.wg_num.specs.declared.types.Un.TheVariants as uns
use Rattle.cl_model.specs.Lists.{Each}
use Rattle.cl_model.specs.declared.program.Space.{Space}
use Rattle.cl_tree.specs.declared.tree.Form.{Form}
use Rattle.cl_tree.specs.declared.tree.Form.TheVariants as forms
use Rattle.cl_meaning.specs.Spelling.{name_in, binary_in, intrinsic_in}
use Rattle.cl_meaning.specs.Conversions.{is_comparison}
use Rattle.cl_meaning.specs.declared.operators.Prefix.{Prefix}
use Rattle.cl_meaning.specs.declared.operators.Prefix.TheVariants as prefixes
use Rattle.cl_meaning.specs.declared.operators.Postfix.{Postfix}
use Rattle.cl_meaning.specs.declared.operators.Postfix.TheVariants as postfixes
use Rattle.cl_meaning.specs.declared.names.Intrinsic.{Intrinsic}
use Rattle.cl_meaning.specs.declared.names.Intrinsic.TheVariants as intrinsics
use Rattle.cl_short_vec.specs.declared.types.Vector.{Vector}
use Rattle.cl_short_vec.specs.declared.kinds.Reach.{Reach}
use Rattle.cl_short_vec.specs.declared.kinds.Reach.TheVariants.{Value, Variable, Element}
use Rattle.cl_short_vec.specs.declared.kinds.Kind.{Kind}
use Rattle.cl_short_vec.specs.declared.kinds.Kind.TheVariants.{Vectors, Pointer, Other}
use Rattle.cl_short_vec.specs.Types.{vector, numbers, all_below, is_width, allowed, named_in, selected, picked}
use Rattle.cl_short_vec.specs.Types.{signed_of}
use Rattle.cl_short_vec.specs.Kinds.{Names, is_vector, value_of, first_vector, pointer_alone, element_of, address_of}
use Rattle.cl_short_vec.specs.Kinds.{several, selection_of, compared, pointer_moved, joined_kind, prefix_kind}
use Rattle.cl_short_vec.specs.Kinds.{postfix_kind, called_kind, cast_kind, is_operator}
use Rattle.cl_short_vec.specs.Marks.{Marks, vector_among, front_type, front_kind, back_kind, kind_by}
use Rattle.cl_short_vec.specs.Roles.{is_place}
use Rattle.cl_short_vec.specs.Faults.{all_of, selected_in, chosen}
use Rattle.cl_short_vec.specs.Order.{type_in, count_in}

-- ---- what is no place

pub place_vector : (k : Kind) → is_place k ≡ true → is_vector k ≡ true
place_vector (Vectors v r) h = refl
place_vector (Pointer s c v) h = absurd (false≢true h)
place_vector (Other b) h = absurd (false≢true h)

value_no_place : (k : Kind) → is_place (value_of k) ≡ false
value_no_place (Vectors v r) = refl
value_no_place (Pointer s c v) = refl
value_no_place (Other b) = refl

alone_no_place : (k : Kind) → is_place (pointer_alone k) ≡ false
alone_no_place (Vectors v r) = refl
alone_no_place (Pointer s c v) = refl
alone_no_place (Other y) = refl

either_no_place : (b : Bool) (j k : Kind) → is_place j ≡ false → is_place k ≡ false →
    is_place (if b then j else k) ≡ false
either_no_place true j k h i = h
either_no_place false j k h i = i

first_no_place : (j k : Kind) → is_place (first_vector j k) ≡ false
first_no_place j k =
    either_no_place (is_vector j) (value_of j) (value_of k) (value_no_place j) (value_no_place k)

-- the reach of a vector tells
reach_place : (v u : Vector) (r : Reach) → is_place (Vectors v r) ≡ is_place (Vectors u r)
reach_place v u Value = refl
reach_place v u Variable = refl
reach_place v u (Element s c) = refl

compared_place : (op : Bin) (k : Kind) → is_place (compared op k) ≡ is_place k
compared_place op (Vectors v r) = by (is_comparison op)
  where
    by : (b : Bool) → is_place (if b then Vectors (vector (signed_of v.of) v.count) r else Vectors v r) ≡
        is_place (Vectors v r)
    by true = reach_place (vector (signed_of v.of) v.count) v r
    by false = refl
compared_place op (Pointer s c v) = refl
compared_place op (Other b) = refl

moved_no_place : (op : Bin) (j k : Kind) → is_place (pointer_moved op j k) ≡ false
moved_no_place bins.Add (Pointer s c v) (Other b) = refl
moved_no_place bins.Add (Other b) (Pointer s c v) = refl
moved_no_place bins.Sub (Pointer s c v) (Other b) = refl
moved_no_place op j k = refl

joined_no_place : (o : Option Bin) (j k : Kind) → is_place (joined_kind o j k) ≡ false
joined_no_place None j k = refl
joined_no_place (Some op) j k =
    either_no_place (is_vector (first_vector j k)) (compared op (first_vector j k)) (pointer_moved op j k)
    (compared_place op (first_vector j k) ∙ first_no_place j k) (moved_no_place op j k)

called_no_place : (i : Option Intrinsic) (k : Kind) → is_place (called_kind i k) ≡ false
called_no_place (Some (intrinsics.Function g)) (Vectors v r) = refl
called_no_place i k = refl

cast_no_place : (o : Option Vector) → is_place (cast_kind o) ≡ false
cast_no_place None = refl
cast_no_place (Some v) = refl

-- the productions of places
abbrev pub can_be_place : Form → Bool
can_be_place forms.VariableNode = true
can_be_place forms.ParenNode = true
can_be_place forms.UnaryNode = true
can_be_place forms.PostfixNode = true
can_be_place form = false

pub place_form : (form : Form) (w : List ℕ) (names : Names) (ms : Marks) → is_place (kind_by names form w ms) ≡ true →
    can_be_place form ≡ true
unfolding kind_by
place_form forms.VariableNode w names ms h = refl
place_form forms.ParenNode w names ms h = refl
place_form forms.UnaryNode w names ms h = refl
place_form forms.PostfixNode w names ms h = refl
place_form forms.CallNode w names ms h =
    absurd (false≢true (sym (called_no_place (intrinsic_in (name_in w)) (vector_among ms)) ∙ h))
place_form forms.CastNode w names ms h = absurd (false≢true (sym (cast_no_place (front_type ms)) ∙ h))
place_form forms.ExprNode w names ms h = absurd (false≢true (sym (alone_no_place (back_kind ms)) ∙ h))
place_form forms.AssignNode w names ms h = absurd (false≢true (sym (alone_no_place (front_kind ms)) ∙ h))
place_form form w names ms h = absurd (false≢true (sym (either_no_place (is_operator form)
    (joined_kind (binary_in w) (front_kind ms) (back_kind ms)) (Other true)
    (joined_no_place (binary_in w) (front_kind ms) (back_kind ms)) refl) ∙ h))

-- what is behind a pointer to vectors
pub record Behind (j k : Kind) : Type 0 where
  pub space : Space
  pub constant : Bool
  pub v : Vector
  pub pointer : j ≡ Pointer space constant v
  pub element : k ≡ Vectors v (Element space constant)

element_place : (j : Kind) → is_place (element_of j) ≡ true → Behind j (element_of j)
element_place (Vectors v r) h = absurd (false≢true h)
element_place (Pointer s c v) h = record { space = s; constant = c; v = v; pointer = refl; element = refl }
element_place (Other b) h = absurd (false≢true h)

address_no_place : (k : Kind) → is_place (address_of k) ≡ false
address_no_place (Vectors v (Element s c)) = refl
address_no_place k = refl

pub content_place : (o : Option Prefix) (j : Kind) → is_place (prefix_kind o j) ≡ true →
    (o ≡ Some prefixes.Content) × Behind j (prefix_kind o j)
content_place None j h = absurd (false≢true h)
content_place (Some (prefixes.Operator uns.Not)) j h = absurd (false≢true h)
content_place (Some (prefixes.Operator uns.Plus)) j h = absurd (false≢true (sym (value_no_place j) ∙ h))
content_place (Some (prefixes.Operator uns.Minus)) j h = absurd (false≢true (sym (value_no_place j) ∙ h))
content_place (Some (prefixes.Operator uns.Flip)) j h = absurd (false≢true (sym (value_no_place j) ∙ h))
content_place (Some prefixes.Content) j h = (refl, element_place j h)
content_place (Some prefixes.Address) j h = absurd (false≢true (sym (address_no_place j) ∙ h))
content_place (Some (prefixes.Step op)) j h = absurd (false≢true (sym (alone_no_place j) ∙ h))
content_place (Some prefixes.Size) j h = absurd (false≢true h)

-- without a selection
pub index_place : (o : Option Postfix) (j : Kind) → is_place (postfix_kind None o j) ≡ true →
    (o ≡ Some postfixes.Index) × Behind j (postfix_kind None o j)
index_place None j h = absurd (false≢true h)
index_place (Some (postfixes.Step op)) j h = absurd (false≢true (sym (alone_no_place j) ∙ h))
index_place (Some postfixes.Index) j h = (refl, element_place j h)

-- ---- components

abbrev pub AllUnder : ℕ → List ℕ → Type 0
AllUnder n cs = Each (λ c. c < n) cs

numbers_under : (first n m : ℕ) → first + n ≤ m → AllUnder m (numbers first 1 n)
numbers_under first zero m h = tt
numbers_under first (suc n) m h = (omega arith, numbers_under (first + 1) n m (omega arith))

pub all_under : (k : Kind) → AllUnder (count_in k) (all_of k)
all_under (Vectors v r) = numbers_under 0 v.count v.count (omega arith)
all_under (Pointer s c v) = tt
all_under (Other b) = tt

numbers_many : (first n : ℕ) → length (numbers first 1 n) ≡ n
numbers_many first zero = refl
numbers_many first (suc n) = ap suc (numbers_many (first + 1) n)

pub all_many : (k : Kind) → is_vector k ≡ true → length (all_of k) ≡ count_in k
all_many (Vectors v r) h = numbers_many 0 v.count
all_many (Pointer s c v) h = absurd (false≢true h)
all_many (Other y) h = absurd (false≢true h)

both : (a b : Bool) → a && b ≡ true → (a ≡ true) × (b ≡ true)
both true b e = (refl, e)
both false b e = absurd (false≢true e)

abbrev pub BelowIn : ℕ → Option (List ℕ) → Type 0
BelowIn n None = Unit {0}
BelowIn n (Some ks) = all_below n ks ≡ true

-- a selection picks among the components that are there
pub selected_below : (n : ℕ) (name : List ℕ) → BelowIn n (selected n name)
unfolding selected
selected_below n name = by (named_in n name)
  where
    tested : (ks : List ℕ) (b : Bool) → all_below n ks && is_width (length ks) ≡ b →
        BelowIn n (if b then Some ks else None)
    tested ks true e = (both (all_below n ks) (is_width (length ks)) e).0
    tested ks false e = tt

    by : (o : Option (List ℕ)) → BelowIn n (allowed n o)
    by None = tt
    by (Some ks) = tested ks (all_below n ks && is_width (length ks)) refl

index_under : (m : ℕ) (ks : List ℕ) (j : ℕ) → AllUnder m ks → j < length ks → slice_index ks j < m
index_under m [] j h l = absurd (omega arith)
index_under m (k ∷ ks) zero h l = h.0
index_under m (k ∷ ks) (suc j) h l = index_under m ks j h.1 (omega arith)

pub picked_under : (m n : ℕ) (ks js : List ℕ) → AllUnder m ks → length ks ≡ n → all_below n js ≡ true →
    AllUnder m (picked ks js)
picked_under m n ks [] h e b = tt
picked_under m n ks (j ∷ js) h e b =
    let g = both (nat_lt j n) (all_below n js) b in
    (index_under m ks j h (under_length g.0), picked_under m n ks js h e g.1)
  where
    under_length : nat_lt j n ≡ true → j < length ks
    under_length i = let less : j < n = grind (arith, nat_tests) in subst (λ z. j < z) (sym e) less

pub picked_many : (ks js : List ℕ) → length (picked ks js) ≡ length js
picked_many ks [] = refl
picked_many ks (j ∷ js) = ap suc (picked_many ks js)

-- a selection that is a place is one of a place of that type, and so many of its components
pub record IsSelection (m : ℕ) (j k : Kind) (ks : List ℕ) : Type 0 where
  pub place : is_place j ≡ true
  pub typed : type_in j ≡ type_in k
  pub below : AllUnder m ks
  pub many : length ks ≡ count_in k

pub selection_is : (m : ℕ) (j : Kind) (name ks : List ℕ) → is_place (selection_of j name) ≡ true →
    (is_place j ≡ true → AllUnder m ks × (length ks ≡ count_in j)) →
    IsSelection m j (selection_of j name) (chosen (selected_in j name) ks)
selection_is m (Pointer s c v) name ks p h = absurd (false≢true p)
selection_is m (Other y) name ks p h = absurd (false≢true p)
selection_is m (Vectors v r) name ks p h = by (selected v.count name) (selected_below v.count name) p
  where
    found : (js : List ℕ) (b : Bool) → all_below v.count js ≡ true →
        is_place (if b then (Other true) else Vectors (vector v.of (length js)) r) ≡ true →
        IsSelection m (Vectors v r) (if b then (Other true) else Vectors (vector v.of (length js)) r) (picked ks js)
    found js true e q = absurd (false≢true q)
    found js false e q =
        let place = reach_place v (vector v.of (length js)) r ∙ q in
        let g = h place in record {
          place = place;
          typed = refl;
          below = picked_under m v.count ks js g.0 g.1 e;
          many = picked_many ks js;
        }

    by : (o : Option (List ℕ)) → BelowIn v.count o → is_place (several v r o) ≡ true →
        IsSelection m (Vectors v r) (several v r o) (chosen o ks)
    by None e q = absurd (false≢true q)
    by (Some js) e q = found js (nat_eq (length js) 1) e q

-- what is selected of a place is one
pub selected_place : (j : Kind) (name : List ℕ) → is_place (selection_of j name) ≡ true → is_place j ≡ true
selected_place (Pointer s c v) name h = absurd (false≢true h)
selected_place (Other b) name h = absurd (false≢true h)
selected_place (Vectors v r) name h = by (selected v.count name) h
  where
    by : (o : Option (List ℕ)) → is_place (several v r o) ≡ true → is_place (Vectors v r) ≡ true
    by None e = absurd (false≢true e)
    by (Some ks) e = one (nat_eq (length ks) 1) e
      where
        one : (b : Bool) → is_place (if b then (Other true) else Vectors (vector v.of (length ks)) r) ≡ true →
            is_place (Vectors v r) ≡ true
        one true g = absurd (false≢true g)
        one false g = reach_place v (vector v.of (length ks)) r ∙ g
