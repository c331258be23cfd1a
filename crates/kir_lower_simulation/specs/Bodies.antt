-- What is known of statements and of the body of a function before their lines.
use Rattle.std.specs.Prelude.{◌≡◌, ℕ, ◌+◌, ◌<◌, ◌≤◌, pos, List, [], ◌∷◌, Option, Some, None, slice_get, if◌then◌else◌}
use Rattle.std.specs.Prelude.{nat_eq}
use Rattle.std.specs.Prelude.{Bool as Test, true}
use Rattle.wg_num.specs.declared.types.IntType.{IntType}
use Rattle.wg_num.specs.declared.types.IntType.TheVariants.{Int}
use Rattle.cl_model.specs.declared.program.Space.TheVariants as space
use Rattle.cl_model.specs.Agreement.{IsScopedAt}
use Rattle.cl_model.specs.Calls.{calls_of, calls_of_all, calls_of_arms, function_at, kernel_of}
use Rattle.cl_model.specs.Lists.{AllDiffer}
use Rattle.cl_model.specs.Objects.{kernel_objects}
use Rattle.cl_model.specs.Steps.{passed_object}
use Rattle.cl_model.specs.declared.program.Root.{Root}
use Rattle.cl_model.specs.Task.{Point as ProgramPoint, Item as ProgramItem, first_point}
use Rattle.cl_model.specs.Tree.{Array, Expression, Statement, Do, Declare, Fill, Block, If, Loop, Switch, Break}
use Rattle.cl_model.specs.Tree.{Continue, Return, Barrier, Statements, empty, also, Arms, no_arm, arm, Program}
use Rattle.cl_model.specs.Tree.{Function}
use Rattle.cl_model.specs.Valid.{Scope, scope_after, labels_of, defaults_of}
use Rattle.kir.specs.declared.line.Atom.{Atom}
use Rattle.kir.specs.declared.line.Atom.TheVariants.{Const, Cell as CellAtom}
use Rattle.kir.specs.Lowering.{Named}
use Rattle.kir_lower.specs.Made.{Made, next_cell, argument_roots}
use Rattle.kir_lower.specs.Whole.{names_at, way_behind, instance_at, with_instance, kernel_way, nothing_made}
use Rattle.kir_lower.specs.Ways.{way_out, way_out_of_all, way_out_of_arms}
use Rattle.kir_lower.specs.Code.{Calls, statement_code, list_code, arms_code, result_code}
use Rattle.kir_lower_shape.specs.Marks.{Way}
use Rattle.kir_lower_simulation.specs.Nodes.{AreInPlace}
use Rattle.kir_lower_simulation.specs.Setting.{Setting, Store, Activation, frame, inside, behind_variables}
use Rattle.kir_lower_simulation.specs.Held.{Within, IsMade, IsWithin}
use Rattle.kir_lower_simulation.specs.Ready.{HasOwn, IsSound, AreSound, AreNext, LeadsToStatement, LeadsToList}
use Rattle.kir_lower_simulation.specs.Ready.{LeadsToArms}

-- ---- sound statements

-- of an expression that may be absent
abbrev pub IsSoundOptional : Program → Function → Scope → Option Expression → Type 0
IsSoundOptional program f scope None = Unit {0}
IsSoundOptional program f scope (Some e) = IsSound program f scope e

-- of the value of a return, which is there where the function has a result
abbrev pub IsSoundReturn : Program → Function → Scope → Option Expression → Type 0
IsSoundReturn program f scope None = f.result ≡ None
IsSoundReturn program f scope (Some e) = ((t : IntType) × (f.result ≡ Some t)) × IsSound program f scope e

-- each expression of a statement is sound, and so are the variables and arrays that it names
abbrev mutual
  pub IsSoundStatement : Program → Function → Scope → Statement → Type 0
  IsSoundStatement program f scope (Do e) = IsSound program f scope e
  IsSoundStatement program f scope (Declare x value) = HasOwn f x × IsSoundOptional program f scope value
  IsSoundStatement program f scope (Fill site array values) =
      ((a : Array) × (slice_get f.arrays array ≡ Some a) × (a.space ≡ space.Private)) × AreSound program f scope values
  IsSoundStatement program f scope (Block list) = IsSoundList program f scope list
  IsSoundStatement program f scope (If site test chosen other) =
      IsSound program f scope test × IsSoundList program f scope chosen × IsSoundList program f scope other
  -- the body of a loop declares no variable
  IsSoundStatement program f scope (Loop site test_first test step body) = IsSoundOptional program f scope test ×
      IsSoundOptional program f scope step × IsSoundStatement program f scope body × (scope_after scope body ≡ scope)
  IsSoundStatement program f scope (Switch site value arms) =
      IsSound program f scope value × AllDiffer (labels_of arms) × (defaults_of arms ≤ 1) ×
      AreSoundArms program f scope arms
  IsSoundStatement program f scope (Break site) = Unit {0}
  IsSoundStatement program f scope (Continue site) = Unit {0}
  IsSoundStatement program f scope (Return site value) = IsSoundReturn program f scope value
  IsSoundStatement program f scope (Barrier site) = Unit {0}

  pub IsSoundList : Program → Function → Scope → Statements → Type 0
  IsSoundList program f scope empty = Unit {0}
  IsSoundList program f scope (also s rest) =
      IsSoundStatement program f scope s × IsSoundList program f (scope_after scope s) rest

  pub AreSoundArms : Program → Function → Scope → Arms → Type 0
  AreSoundArms program f scope no_arm = Unit {0}
  AreSoundArms program f scope (arm labels other body rest) =
      IsSoundList program f scope body × AreSoundArms program f scope rest

-- ---- declarations at the end of a list

-- the statement declares the variable
abbrev pub declares_it : Statement → ℕ → ℕ
declares_it (Declare y value) x = if nat_eq y x then 1 else 0
declares_it (Do e) x = 0
declares_it (Fill site array values) x = 0
declares_it (Block list) x = 0
declares_it (If site test chosen other) x = 0
declares_it (Loop site test_first test step body) x = 0
declares_it (Switch site value arms) x = 0
declares_it (Break site) x = 0
declares_it (Continue site) x = 0
declares_it (Return site value) x = 0
declares_it (Barrier site) x = 0

-- it counts where no statement stands behind it
abbrev pub if_last : Statements → ℕ → ℕ
if_last empty n = n
if_last (also s rest) n = 0

-- how many declarations of a variable end their list
abbrev mutual
  pub ends_in : Statement → ℕ → ℕ
  ends_in (Do e) x = 0
  ends_in (Declare y value) x = 0
  ends_in (Fill site array values) x = 0
  ends_in (Block list) x = ends_of_list list x
  ends_in (If site test chosen other) x = ends_of_list chosen x + ends_of_list other x
  ends_in (Loop site test_first test step body) x = ends_in body x
  ends_in (Switch site value arms) x = ends_of_arms arms x
  ends_in (Break site) x = 0
  ends_in (Continue site) x = 0
  ends_in (Return site value) x = 0
  ends_in (Barrier site) x = 0

  pub ends_of_list : Statements → ℕ → ℕ
  ends_of_list empty x = 0
  ends_of_list (also s rest) x = if_last rest (declares_it s x) + (ends_in s x + ends_of_list rest x)

  pub ends_of_arms : Arms → ℕ → ℕ
  ends_of_arms no_arm x = 0
  ends_of_arms (arm labels other body rest) x = ends_of_list body x + ends_of_arms rest x

-- no item of which the tasks are in place stands in the scope of the variable
abbrev pub IsNeverScoped : Setting → Activation → ℕ → Type 0
IsNeverScoped S C x =
    (j : ProgramItem) (point : ProgramPoint) → AreInPlace S.program j.tasks → first_point j.tasks ≡ Some point →
    IsScopedAt S.program point (record { function = C.function; variable = x }) → ⊥

-- ---- the body of a function

-- the cell of its result, where it has one, is the first behind its variables
pub record IsBody (S : Setting) (C : Activation) : Type 0 where
  pub some_result : (t : IntType) → (function_at S.program C.function).result ≡ Some t →
      (C.answer ≡ CellAtom C.here.answer) × IsMade S C.here.answer t × (behind_variables S C ≤ C.here.answer) ×
      (C.here.answer < C.low)
  pub no_result : (function_at S.program C.function).result ≡ None → C.answer ≡ Const (pos 0) Int

-- the cell of a construct with a way out, if there is one
pub record IsExit (S : Setting) (C : Activation) (cell : Option ℕ) (exit : ℕ) (m : Made) : Type 0 where
  pub is : (c : ℕ) → cell ≡ Some c → c ≡ exit
  pub made : (c : ℕ) → cell ≡ Some c → IsMade S c Int
  pub low : (c : ℕ) → cell ≡ Some c → C.low ≤ c
  pub high : (c : ℕ) → cell ≡ Some c → c < next_cell m

-- there is one where there is a way out
abbrev pub HasExit : Option ℕ → ℕ → Option ℕ → Type 0
HasExit cell exit way = (site : ℕ) → way ≡ Some site → cell ≡ Some exit

-- the function that a call in another enters, where the variables of that hold these values and this is made
abbrev pub entered : Setting → List (List Named) → Activation → (site g : ℕ) → List (Option Root) → (depth : ℕ) →
    (vars : Store) → Made → Activation
entered S names C site g roots depth vars m =
    let f = function_at S.program g in
    let there = way_behind S.program C.here site g (argument_roots C.here roots) in
    let cr = result_code f.result (with_instance there (names_at names g) f m) in
    record {
      function = g;
      here = instance_at there f m;
      objects = λ n. passed_object S.program S.launch (inside S C [] [] vars) (slice_get roots n);
      outer = frame C vars ∷ C.outer;
      depth = depth;
      answer = cr.value.atom;
      low = next_cell cr.made;
    }

-- the kernel's own function
abbrev pub own_activation : Setting → List (List Named) → (depth : ℕ) → Activation
own_activation S names depth =
    let f = kernel_of S.program in
    let there = kernel_way S.program in
    let cr = result_code f.result (with_instance there (names_at names S.program.kernel) f nothing_made) in
    record {
      function = S.program.kernel;
      here = instance_at there f nothing_made;
      objects = kernel_objects S.program S.launch S.item;
      outer = [];
      depth = depth;
      answer = cr.value.atom;
      low = next_cell cr.made;
    }

-- ---- all of it

-- a statement at a way, with the cell of the construct around it, whose lines are made here
pub record ReadyStatement (S : Setting) (C : Activation) (calls : Calls) (scope : Scope) (cell : Option ℕ) (exit : ℕ)
    (way : Way) (s : Statement) (m : Made) : Type 0 where
  pub sound : IsSoundStatement S.program (function_at S.program C.function) scope s
  pub leads : LeadsToStatement S C scope way s
  pub next : AreNext S C m (calls_of s)
  pub within : Within S (statement_code calls C.here exit s m).made
  pub low : C.low ≤ next_cell m
  pub inner : IsWithin S C scope
  pub ended : (x : ℕ) → 0 < ends_in s x → IsNeverScoped S C x
  pub exits : IsExit S C cell exit m
  pub has_exit : HasExit cell exit (way_out true true s)

-- statements in order, the first with this number, under a guard or not
pub record ReadyList (S : Setting) (C : Activation) (calls : Calls) (scope : Scope) (cell : Option ℕ) (exit : ℕ)
    (way : Way) (k : ℕ) (guarded : Test) (list : Statements) (m : Made) : Type 0 where
  pub sound : IsSoundList S.program (function_at S.program C.function) scope list
  pub leads : LeadsToList S C scope way k list
  pub next : AreNext S C m (calls_of_all list)
  pub within : Within S (list_code calls C.here exit guarded list m).made
  pub low : C.low ≤ next_cell m
  pub inner : IsWithin S C scope
  pub ended : (x : ℕ) → 0 < ends_of_list list x → IsNeverScoped S C x
  pub exits : IsExit S C cell exit m
  pub has_exit : HasExit cell exit (way_out_of_all true true list)

-- the arms of a switch, the first with this number
pub record ReadyArms (S : Setting) (C : Activation) (calls : Calls) (scope : Scope) (cell : Option ℕ) (exit : ℕ)
    (way : Way) (site : ℕ) (chosen fallen : Atom) (k : ℕ) (arms : Arms) (m : Made) : Type 0 where
  pub sound : AreSoundArms S.program (function_at S.program C.function) scope arms
  pub leads : LeadsToArms S C scope way k arms
  pub next : AreNext S C m (calls_of_arms arms)
  pub within : Within S (arms_code calls C.here exit site chosen fallen k arms m).made
  pub low : C.low ≤ next_cell m
  pub inner : IsWithin S C scope
  pub ended : (x : ℕ) → 0 < ends_of_arms arms x → IsNeverScoped S C x
  pub exits : IsExit S C cell exit m
  pub has_exit : HasExit cell exit (way_out_of_arms true true arms)
