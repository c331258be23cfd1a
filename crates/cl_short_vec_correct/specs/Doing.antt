-- What an item does where a vector statement of the unit stands, as the unit without vectors does it.
use Rattle.std.specs.Prelude.{◌≡◌, ℕ, suc, ◌+◌, ◌<◌, ◌≤◌, true, ℤ, pos, Bool, List, [], ◌∷◌, ◌++◌, length, Option}
use Rattle.std.specs.Prelude.{Some, nat_eq, ◌&&◌}
use Rattle.std.specs.Prelude.{map, slice_get, if◌then◌else◌}
use Rattle.work_items.specs.Items.{Goes, Loads, Stores}
use Rattle.work_items.specs.Histories.{Deed, Read, Wrote, History, DoesOnce}
use Rattle.wg_num.specs.declared.types.IntType.{IntType}
use Rattle.wg_num.specs.declared.types.IntType.TheVariants as types
use Rattle.wg_num.specs.declared.types.Place.{Place}
use Rattle.wg_num.specs.declared.types.Bin.TheVariants as bins
use Rattle.wg_num.specs.Wrap.{IsValue}
use Rattle.wg_num.specs.Bytes.{bytes_of, value_of_bytes}
use Rattle.wg_num.specs.Operators.{binary_of}
use Rattle.cl_model.specs.declared.program.Root.{Root}
use Rattle.cl_model.specs.declared.program.VarKind.{VarKind}
use Rattle.cl_model.specs.Tree.{Expression, Statements, Program}
use Rattle.cl_model.specs.Sizes.{Launch}
use Rattle.cl_model.specs.Task.{Point, Task, Evaluate, Frame, Item}
use Rattle.cl_model.specs.Steps.{last, frame_of, frames_below, in_order, access_at, object_at, item_next}
use Rattle.cl_model.specs.Meaning.{lengths_of, MayBeTold, start_item}
use Rattle.cl_model.specs.Calls.{function_at}
use Rattle.cl_model.specs.Valid.{kind_type, HasVariable}
use Rattle.cl_model_typed.specs.Law.{IsTyped}
use Rattle.cl_meaning.specs.declared.kind.Meaning.TheVariants as meanings
use Rattle.cl_meaning.specs.declared.kind.Kind as kind
use Rattle.cl_meaning.specs.declared.kind.Kind.TheVariants as kinds
use Rattle.cl_meaning.specs.Environment.{Env, Variable, meaning_of}
use Rattle.cl_meaning.specs.Expressions.{operand, read}
use Rattle.cl_meaning.specs.Meant.{meant}
use Rattle.cl_short_vec.specs.Marks.{Mark, tree_at, kind_at}
use Rattle.cl_short_vec.specs.Nodes.{span_of, component_name}
use Rattle.cl_short_vec.specs.Order.{Named, Step, Offset, Number, Copy, Load, Set, Store, type_in}
use Rattle.cl_short_vec.specs.Scalar.{scalar}
use Rattle.cl_short_vec.specs.Unit.{address_at}
use Rattle.cl_short_vec_correct.specs.Values.{Leaves, Worth}
use Rattle.cl_short_vec_correct.specs.Sources.{is_sourced}

-- the first token of a leaf or of a target
abbrev pub first_at : Mark → ℕ
first_at m = (span_of (tree_at m)).first

-- what the leaves gave so far, by their first tokens, and how far from its root each element stands
pub record Got : Type 0 where
  pub leaves : Leaves
  pub offsets : ℕ → ℤ

abbrev pub nothing_got : Got
nothing_got = record { leaves = record { number = λ k. pos 0; component = λ k c. pos 0 }; offsets = λ k. pos 0 }

-- one value more: of a number, of a component, and where an element stands
abbrev pub with_number : Got → ℕ → ℤ → Got
with_number got k v =
    record got { leaves = record got.leaves { number = λ j. if nat_eq j k then v else got.leaves.number j } }

abbrev pub with_component : Got → ℕ → ℕ → ℤ → Got
with_component got k c v = record got {
  leaves = record got.leaves {
    component = λ j d. if nat_eq j k && nat_eq d c then v else got.leaves.component j d;
  };
}

abbrev pub with_offset : Got → ℕ → ℤ → Got
with_offset got k v = record got { offsets = λ j. if nat_eq j k then v else got.offsets j }

-- the index of a component of an element, which wraps at 64 bits
abbrev pub index_of : Got → Mark → ℕ → ℤ
index_of got m c = binary_of bins.Add types.Long (got.offsets (first_at m)) (pos c)

-- ---- items

-- A variable of the function under way is set, and others may be set that help; nothing else of the item's own changes
-- but what is left to do.
pub record Sets (helps : ℕ → Type 0) (sets : ℕ → ℤ → Type 0) (from to : Item) : Type 0 where
  pub number : to.number ≡ from.number
  pub function : (frame_of to.frames).function ≡ (frame_of from.frames).function
  pub path : (frame_of to.frames).path ≡ (frame_of from.frames).path
  pub objects : (frame_of to.frames).objects ≡ (frame_of from.frames).objects
  pub below : frames_below to.frames ≡ frames_below from.frames
  pub set : (x : ℕ) (v : ℤ) → sets x v → (frame_of to.frames).variables x ≡ v
  pub kept : (x : ℕ) → (helps x → ⊥) → ((v : ℤ) → sets x v → ⊥) →
      (frame_of to.frames).variables x ≡ (frame_of from.frames).variables x

abbrev pub sets_nothing : ℕ → ℤ → Type 0
sets_nothing x v = ⊥

abbrev pub sets_one : ℕ → ℤ → ℕ → ℤ → Type 0
sets_one y w x v = (x ≡ y) × (v ≡ w)

-- ---- leaves

abbrev pub IsPointing : Root → Option kind.Kind → Type 0
IsPointing r (Some (kinds.Pointer s e c root i p)) = r ≡ root
IsPointing r k = ⊥

-- where `env` is visible, a number is evaluated as one of that type
abbrev pub IsNumber : Env → IntType → Mark → Expression → Type 0
IsNumber env of m e = (sites : List Place) × (e ≡ operand of (meant env sites (scalar m)).piece)

-- an element stands at this root, as far from its start as the expression says
abbrev pub IsElement : Env → Mark → Root → Expression → Type 0
IsElement env m r e =
    (sites : List Place) × IsPointing r (meant env sites (address_at m)).piece.kind ×
    (e ≡ read (meant env sites (address_at m)).piece.what)

-- a component of a variable of the unit is this variable of the function, of that type
abbrev pub IsComponent : Env → Named → ℕ → IntType → ℕ → Type 0
IsComponent env x c of y =
    (constant : Bool) × (meaning_of env (component_name x.name c) ≡ Some (meanings.Scalar of constant y))

-- how many leaves steps take, each into a helping variable
abbrev pub leaves_among : List Step → ℕ
leaves_among [] = 0
leaves_among (Set x c j ∷ steps) = leaves_among steps
leaves_among (Store m c j ∷ steps) = leaves_among steps
leaves_among (step ∷ steps) = suc (leaves_among steps)

-- the variables that help: one for each leaf, behind those that are there
abbrev pub Helps : Env → List Step → ℕ → Type 0
Helps env steps y = (length env.variables ≤ y) × (y < length env.variables + leaves_among steps)

-- none of them stands for what the source names, where `later` is visible behind the steps
abbrev pub Aside : (env later : Env) → List Step → Type 0
Aside env later steps = (q : List ℕ) (of : IntType) (constant : Bool) (y : ℕ) → is_sourced q ≡ true →
    meaning_of later q ≡ Some (meanings.Scalar of constant y) → Helps env steps y → ⊥

-- ---- what an item does

-- The item is within a statement behind which these tasks are left: they are all still there, and something is to be
-- done before them. So it did not leave the statement by a `break`, a `continue` or a `return`, and has not ended.
abbrev pub IsWithin : List Task → Item → Type 0
IsWithin rest i = (task : Task) × (tasks : List Task) × (i.tasks ≡ task ∷ (tasks ++ rest))

module _ (program : Program) (launch : Launch) (buffers : List (List ℕ)) where
  abbrev pub Does : Item → List Deed → Item → Type 0
  Does = History (lengths_of program launch buffers) (MayBeTold program launch buffers) (item_next program launch)

  abbrev pub Accesses : Item → Deed → Item → Type 0
  Accesses from deed to =
      DoesOnce (lengths_of program launch buffers) (MayBeTold program launch buffers) (item_next program launch from)
      deed to

  -- the next step of the item is its own: it comes to no access, no barrier and no iteration
  abbrev pub GoesOn : Item → Type 0
  GoesOn i = (next : Item) × (item_next program launch i ≡ Goes next)

  -- The item comes from one to the other by steps of its own without a deed: it makes no access, begins no iteration
  -- and passes no barrier. It sets what is set there, and what is left behind the statement is still left.
  pub record Advances (helps : ℕ → Type 0) (sets : ℕ → ℤ → Type 0) (rest : List Task) (from to : Item) : Type 0 where
    pub does : Does from [] to
    pub changes : Sets helps sets from to
    pub front : List Task
    pub left : to.tasks ≡ front ++ rest

  -- between what sets a variable, only helping variables are set
  abbrev pub Computes : (helps : ℕ → Type 0) → List Task → Item → Item → Type 0
  Computes helps = Advances helps sets_nothing

  -- within a statement behind which `rest` is left, the item begins to evaluate the expression, and stands in it
  pub record StandsIn (rest : List Task) (e : Expression) (from : Item) (deeds : List Deed) (to : Item) : Type 0 where
    pub at : Point
    pub front : List Task
    pub begins : from.tasks ≡ Evaluate at e ∷ (front ++ rest)
    pub does : Does from deeds to
    pub stands : IsWithin (front ++ rest) to

  -- the item evaluates the expression there, and is behind it with its value
  pub record Evaluates (rest : List Task) (e : Expression) (from : Item) (deeds : List Deed) (to : Item) (v : ℤ) :
      Type 0 where
    pub at : Point
    pub front : List Task
    pub begins : from.tasks ≡ Evaluate at e ∷ (front ++ rest)
    pub does : Does from deeds to
    pub behind : to.tasks ≡ front ++ rest
    pub value : last to.values ≡ v

  -- In the typed program of a unit without vectors: `env` is visible where the statement stands, `later` behind it.
  module _ (env later : Env) (helps : ℕ → Type 0) where
    -- From one item to another with these deeds, the steps that are left are done in order, as far as the history goes:
    -- `result` gives the values by number from what the leaves give, and `rest` is left to do behind the statement.
    -- Each number and each component of a variable is a value of its type.
    pub data Along (result : Leaves → Worth) (rest : List Task) : List Step → Got → Item → List Deed → Item →
        Type 0 where
      -- the history ends between two steps, within the statement, and the item goes on by itself
      between : {steps : List Step} {got : Got} {from to : Item} → Computes helps rest from to → IsWithin rest to →
          GoesOn to → Along result rest steps got from [] to
      -- the history ends before the access of the next step
      at_load : {m : Mark} {c : ℕ} {steps : List Step} {got : Got} {from to : Item} (r : Root) (e : Expression)
          (site : ℕ) (after : List ℕ → Item) → IsElement env m r e → Computes helps rest from to →
          item_next program launch to ≡
          Loads site (access_at program launch to (type_in (kind_at m)) r (index_of got m c)) after →
          Along result rest (Load m c ∷ steps) got from [] to
      at_store : {m : Mark} {c j : ℕ} {steps : List Step} {got : Got} {from to : Item} (r : Root) (e : Expression)
          (site : ℕ) (after : Item) → IsElement env m r e → Computes helps rest from to →
          item_next program launch to ≡ Stores site (object_at program launch to r) (index_of got m c)
          (bytes_of (type_in (kind_at m)) (result got.leaves j)) after →
          Along result rest (Store m c j ∷ steps) got from [] to
      -- all steps are done, and the item goes on behind the statement
      behind : {got : Got} {from mid to : Item} {deeds : List Deed} → Computes helps rest from mid → mid.tasks ≡ rest →
          Does mid deeds to → Along result rest [] got from deeds to
      -- an element's offset, and a number
      in_offset : {m : Mark} {steps : List Step} {got : Got} {from start to : Item} {deeds : List Deed} (r : Root)
          (e : Expression) → IsElement env m r e → Computes helps rest from start → StandsIn rest e start deeds to →
          Along result rest (Offset m ∷ steps) got from deeds to
      offset : {m : Mark} {steps : List Step} {got : Got} {from start mid to : Item} {deeds more : List Deed}
          (r : Root) (e : Expression) (v : ℤ) → IsElement env m r e → Computes helps rest from start →
          Evaluates rest e start deeds mid v → Along result rest steps (with_offset got (first_at m) v) mid more to →
          Along result rest (Offset m ∷ steps) got from (deeds ++ more) to
      in_number : {of : IntType} {m : Mark} {steps : List Step} {got : Got} {from start to : Item}
          {deeds : List Deed} (e : Expression) → IsNumber env of m e → Computes helps rest from start →
          StandsIn rest e start deeds to → Along result rest (Number of m ∷ steps) got from deeds to
      number : {of : IntType} {m : Mark} {steps : List Step} {got : Got} {from start mid to : Item}
          {deeds more : List Deed} (e : Expression) (v : ℤ) → IsNumber env of m e → Computes helps rest from start →
          Evaluates rest e start deeds mid v → IsValue of v →
          Along result rest steps (with_number got (first_at m) v) mid more to →
          Along result rest (Number of m ∷ steps) got from (deeds ++ more) to
      -- a component of a variable
      copy : {of : IntType} {x : Named} {c : ℕ} {steps : List Step} {got : Got} {from mid to : Item}
          {deeds : List Deed} (y : ℕ) → IsComponent env x c of y → Computes helps rest from mid →
          IsValue of ((frame_of mid.frames).variables y) → Along result rest steps
          (with_component got x.span.first c ((frame_of mid.frames).variables y)) mid deeds to →
          Along result rest (Copy of x c ∷ steps) got from deeds to
      -- one access, at the index of the component
      load : {m : Mark} {c : ℕ} {steps : List Step} {got : Got} {from start mid to : Item} {deeds : List Deed}
          (r : Root) (e : Expression) (site : ℕ) (bytes : List ℕ) → IsElement env m r e →
          Computes helps rest from start →
          Accesses start (Read site (access_at program launch start (type_in (kind_at m)) r (index_of got m c)) bytes)
          mid →
          Along result rest steps (with_component got (first_at m) c (value_of_bytes (type_in (kind_at m)) bytes)) mid
          deeds to →
          Along result rest (Load m c ∷ steps) got from
          (Read site (access_at program launch start (type_in (kind_at m)) r (index_of got m c)) bytes ∷ deeds) to
      store : {m : Mark} {c j : ℕ} {steps : List Step} {got : Got} {from start mid to : Item} {deeds : List Deed}
          (r : Root) (e : Expression) (site : ℕ) → IsElement env m r e → Computes helps rest from start →
          Accesses start (Wrote site (object_at program launch start r) (index_of got m c)
          (bytes_of (type_in (kind_at m)) (result got.leaves j))) mid →
          Along result rest steps got mid deeds to → Along result rest (Store m c j ∷ steps) got from
          (Wrote site (object_at program launch start r) (index_of got m c)
          (bytes_of (type_in (kind_at m)) (result got.leaves j)) ∷ deeds) to
      -- a component is set
      set : {x : Named} {c j : ℕ} {steps : List Step} {got : Got} {from mid to : Item} {deeds : List Deed}
          (of : IntType) (y : ℕ) → IsComponent later x c of y →
          Advances helps (sets_one y (result got.leaves j)) rest from mid →
          Along result rest steps got mid deeds to → Along result rest (Set x c j ∷ steps) got from deeds to

-- this variable is declared there, with that type
abbrev pub IsDeclaredAs : Env → ℕ → IntType → Type 0
IsDeclaredAs env x of =
    (kind : VarKind) × (slice_get (map (λ (v : Variable). v.kind) env.variables) x ≡ Some kind) ×
    (kind_type kind ≡ of)

-- the function in which they are declared has the variables that are declared there
abbrev pub HasDeclared : Program → Env → Type 0
HasDeclared program env =
    (x : ℕ) (of : IntType) → IsDeclaredAs env x of → HasVariable (function_at program env.owner.number) x of

-- the item is one of a launch that fits the program, as a history leads to it, and stands in the function of what is
-- declared there
pub record Comes (program : Program) (launch : Launch) (buffers : List (List ℕ)) (later : Env) (from : Item) :
    Type 0 where
  pub typed : IsTyped program launch
  pub item : ℕ
  pub before : List Deed
  pub reached : Does program launch buffers (start_item program launch item) before from
  pub function : (frame_of from.frames).function ≡ later.owner.number

-- an item of the program that comes to these statements does the steps in order, with these results, whatever is left
-- to do behind them
abbrev pub DoSteps : Program → (env later : Env) → List Step → (Leaves → Worth) → Statements → Type 0
DoSteps program env later steps result statements =
    (launch : Launch) (buffers : List (List ℕ)) (at : Point) (k : ℕ) (rest : List Task) (from to : Item) (frame : Frame)
    (frames : List Frame) (deeds : List Deed) → Comes program launch buffers later from →
    from.frames ≡ frame ∷ frames → from.tasks ≡ in_order at k statements rest →
    Does program launch buffers from deeds to
    → Along program launch buffers env later (Helps env steps) result rest steps nothing_got from deeds to
