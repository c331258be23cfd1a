-- What the conditions on vectors and the shape of trees guarantee at each node of a vector expression.
use Rattle.std.proofs.Common.{◌≡◌, ℕ, ◌<◌, List, Some, Bool, true, false}
use Rattle.wg_num.specs.declared.types.IntType.{IntType}
use Rattle.wg_num.specs.declared.types.Fun.{Fun}
use Rattle.wg_num.specs.Wrap.{is_bool, IsValue}
use Rattle.wg_num.specs.Builtins.{result_type}
use Rattle.cl_tree.specs.Syntax.{Syntax}
use Rattle.cl_meaning.specs.OwnWords.{name_in}
use Rattle.cl_meaning.specs.Names.{intrinsic_in}
use Rattle.cl_meaning.specs.Declarations.{form_of, word_of}
use Rattle.cl_meaning.specs.declared.names.Intrinsic.TheVariants as intrinsics
use Rattle.cl_short_vec.specs.declared.kinds.Kind.{Kind}
use Rattle.cl_short_vec.specs.declared.made.Made.{Made}
use Rattle.cl_short_vec.specs.declared.made.Made.TheVariants as made
use Rattle.cl_short_vec.specs.Marks.{Mark, mark, Marks, unmarked, marking, tree_at, kind_at, vector_among}
use Rattle.cl_short_vec.specs.Roles.{is_paren}
use Rattle.cl_short_vec.specs.Made.{made_of}
use Rattle.cl_short_vec.specs.Order.{Step, Number, Copy, Load, type_in, count_in}
use Rattle.cl_short_vec.specs.Parts.{width_by, item_width, width_of, selected_at, filled_at}
use Rattle.cl_short_vec_correct.specs.Values.{Leaves}
use Rattle.cl_short_vec_correct.specs.Doing.{first_at}
use Rattle.cl_short_vec_correct.proofs.Trees.{Gives}

-- A leaf gives a value of its type.
abbrev pub IsGiven : Leaves → Step → Type 0
IsGiven leaves (Number of m) = IsValue of (leaves.number (first_at m))
IsGiven leaves (Copy of x c) = IsValue of (leaves.component x.span.first c)
IsGiven leaves (Load m c) = IsValue (type_in (kind_at m)) (leaves.component (first_at m) c)
IsGiven leaves step = Unit {0}

-- the type of what is made so: of a number and of items it is the one that they count as
abbrev pub type_by : Made → (of : IntType) → Kind → IntType
type_by made.Number of k = of
type_by made.Items of k = of
type_by how of k = type_in k

abbrev pub type_at : (listed : Bool) → (of : IntType) → Mark → IntType
type_at listed of (mark t k parts) = type_by (made_of listed t k) of k

-- a component that is there: a number is worth the same at each
abbrev pub WithinBy : Made → (width c : ℕ) → Type 0
WithinBy made.Number width c = Unit {0}
WithinBy how width c = c < width

abbrev pub Within : (listed : Bool) → Mark → ℕ → Type 0
Within listed (mark t k parts) c =
    WithinBy (made_of listed t k) (width_by (made_of listed t k) k (item_width parts)) c

-- A part that fits is of that type, and has so many components, each at its place.
abbrev pub IsOperand : (fits : Type 0) → (listed : Bool) → IntType → (at : ℕ → ℕ) → ℕ → Mark → Type 0
IsOperand fits listed of at n m =
    fits × (type_at listed of m ≡ of) × ((c : ℕ) → c < n → Within listed m (at c))

-- the first of some parts that is a list in parentheses, or a later one
abbrev pub EitherFits : Bool → Type 0 → Type 0 → Type 0
EitherFits true inside others = inside
EitherFits false inside others = others

-- A function by its name, on components of that type, which gives the other one.
pub record CallFits (name : List ℕ) (of to : IntType) : Type 0 where
  pub function : Fun
  pub named : intrinsic_in name ≡ Some (intrinsics.Function function)
  pub whole : is_bool of ≡ false
  pub gives : to ≡ result_type function of

-- what is asked of the parts of a node
pub record Asked : Type 1 where
  pub items : Type 0
  pub front : (at : ℕ → ℕ) → Type 0
  pub second : Type 0
  pub all : Type 0
  pub list : Type 0

abbrev pub fits_by : Made → Syntax → Kind → Marks → Asked → Type 0
fits_by made.Number t k parts a = Unit {0}
fits_by made.Items t k parts a = a.items
fits_by made.Inside t k parts a = (type_in (vector_among parts) ≡ type_in k) × a.front (λ c. c)
fits_by (made.Signed op) t k parts a =
    (type_in (vector_among parts) ≡ type_in k) × (is_bool (type_in k) ≡ false) × a.front (λ c. c)
fits_by made.Selected t k parts a =
    (type_in (vector_among parts) ≡ type_in k) × a.front (selected_at t parts)
fits_by (made.Joined op) t k parts a =
    (is_bool (type_in (vector_among parts)) ≡ false) × Gives op (type_in (vector_among parts)) (type_in k) ×
    a.front (λ c. c) × a.second
fits_by made.Called t k parts a =
    CallFits (name_in (word_of t)) (type_in (vector_among parts)) (type_in k) × a.all
fits_by made.Listed t k parts a = a.list
fits_by how t k parts a = Unit {0}

unfoldable mutual
  -- an operand, or items of a list where `listed` says so, which count as numbers of that type
  pub Fitting : (listed : Bool) → IntType → Mark → Type 0
  Fitting listed of (mark t k parts) = fits_by (made_of listed t k) t k parts (record {
    items = ItemsFit of parts;
    front = λ at. FrontFits (type_in (vector_among parts)) at (count_in k) parts;
    second = SecondFits (type_in (vector_among parts)) (count_in k) parts;
    all = AllFit (type_in (vector_among parts)) (count_in k) parts;
    list = ListFits (type_in k) (count_in k) parts;
  })

  pub ItemsFit : IntType → Marks → Type 0
  ItemsFit of unmarked = ⊥
  ItemsFit of (marking m unmarked) = ⊥
  ItemsFit of (marking m (marking n ns)) =
      Fitting true of m × (type_at true of m ≡ of) × Fitting false of n × (type_at false of n ≡ of)

  pub FrontFits : IntType → (at : ℕ → ℕ) → ℕ → Marks → Type 0
  FrontFits of at n unmarked = ⊥
  FrontFits of at n (marking m ms) = IsOperand (Fitting false of m) false of at n m

  pub SecondFits : IntType → ℕ → Marks → Type 0
  SecondFits of n unmarked = ⊥
  SecondFits of n (marking m unmarked) = ⊥
  SecondFits of n (marking m (marking p ps)) = IsOperand (Fitting false of p) false of (λ c. c) n p

  pub AllFit : IntType → ℕ → Marks → Type 0
  AllFit of n unmarked = Unit {0}
  AllFit of n (marking m ms) =
      IsOperand (Fitting false of m) false of (λ c. c) n m × AllFit of n ms

  pub ListFits : IntType → ℕ → Marks → Type 0
  ListFits of n unmarked = ⊥
  ListFits of n (marking m ms) =
      EitherFits (is_paren (form_of (tree_at m))) (InsideFits of n m) (ListFits of n ms)

  pub InsideFits : IntType → ℕ → Mark → Type 0
  InsideFits of n (mark t k parts) = FilledFits of n parts

  pub FilledFits : IntType → ℕ → Marks → Type 0
  FilledFits of n unmarked = ⊥
  FilledFits of n (marking m ms) = IsOperand (Fitting true of m) true of (filled_at (width_of m)) n m

-- what is asked of the parts of a node of that kind
abbrev pub asked_of : IntType → Kind → Marks → Asked
asked_of of k ms = record {
  items = ItemsFit of ms;
  front = λ at. FrontFits (type_in (vector_among ms)) at (count_in k) ms;
  second = SecondFits (type_in (vector_among ms)) (count_in k) ms;
  all = AllFit (type_in (vector_among ms)) (count_in k) ms;
  list = ListFits (type_in k) (count_in k) ms;
}
