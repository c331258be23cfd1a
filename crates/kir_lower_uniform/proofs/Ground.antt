-- Cells of a lowered kernel: what is made stays, so the cells of values and flags are none of variables.
use Rattle.std.proofs.Common.{◌≡◌, ℕ, List, [], ◌∷◌, ◌++◌, length, Option, Some, slice_get, refl, sym, ap, ◌∙◌, subst}
use Rattle.std.proofs.Common.{arith}
use Rattle.std.proofs.Common.{Bool as Test}
use Rattle.std.proofs.lemmas.Option.{same_Some}
use Rattle.wg_num.specs.declared.types.IntType.{IntType}
use Rattle.cl_model.specs.declared.program.Root.{Root}
use Rattle.cl_model.specs.Tree.{Action, Expression, Expressions, Statement, Statements, Arms, Program}
use Rattle.cl_model.specs.Calls.{CallSite}
use Rattle.kir.specs.declared.line.Atom.{Atom}
use Rattle.kir.specs.Tree.{Lines, CellKind, OfFlag, OfValue, Cell, Kernel}
use Rattle.kir.specs.Homes.{IsOf}
use Rattle.kir.specs.Lowering.{IsSteady}
use Rattle.kir_lower.specs.declared.places.Value.{Value}
use Rattle.kir_lower.specs.Made.{Made, Instance, next_cell, with_cell}
use Rattle.kir_lower.specs.Actions.{action_code, opened, outward, round_code, selected, fallen_code}
use Rattle.kir_lower.specs.Code.{Calls, expression_code, operands_code, optional_code, entry_code, statement_code}
use Rattle.kir_lower.specs.Code.{list_code, arms_code}
use Rattle.kir_lower_shape.proofs.Making as making
use Rattle.kir_lower_shape.proofs.Variables.{get_before, get_behind}

-- the cell that is put behind others is there
pub last_there : (xs : List Cell) (c : Cell) → slice_get (xs ++ c ∷ []) (length xs) ≡ Some c
last_there xs c = ap (λ n. slice_get (xs ++ c ∷ []) n) (omega arith) ∙ get_behind xs (c ∷ []) 0

module _ (program : Program) (kernel : Kernel) where
  -- the cells of the variables that do not vary
  abbrev pub Even : ℕ → Type 0
  Even = IsSteady program kernel

  -- what is made so far stays in the kernel
  pub record Grown (m : Made) : Type 0 where
    pub cells : (n : ℕ) (c : Cell) → slice_get m.cells n ≡ Some c → slice_get kernel.cells n ≡ Some c

  pub grown_before : (a b : Made) (more : List Cell) → b.cells ≡ a.cells ++ more → Grown b → Grown a
  grown_before a b more e h =
      record { cells = λ n c at. h.cells n c (ap (λ z. slice_get z n) e ∙ get_before a.cells more n c at) }

  abbrev pub Back : List CallSite → Made → Made → Type 0
  Back calls a b = Grown b → Grown a

  back_same : (m : Made) → Back [] m m
  back_same m h = h

  back_before : (xs ys : List CallSite) (a b c : Made) → Back xs a b → Back ys b c → Back (xs ++ ys) a c
  back_before xs ys a b c h k g = h (k g)

  pub back_value : (m : Made) (of : IntType) → Back [] m (with_cell m OfValue of)
  back_value m of h = grown_before m (with_cell m OfValue of) (record { kind = OfValue; of = of } ∷ []) refl h

  pub back_flag : (m : Made) (of : IntType) → Back [] m (with_cell m OfFlag of)
  back_flag m of h = grown_before m (with_cell m OfFlag of) (record { kind = OfFlag; of = of } ∷ []) refl h

  -- a cell of this kind is that of no variable
  not_even : (n : ℕ) (kind : CellKind) (of : IntType) → ((v : _) → IsOf v kind → ⊥) →
      slice_get kernel.cells n ≡ Some (record { kind = kind; of = of }) → Even n → ⊥
  not_even n kind of none_ at e =
      let same : e.cell.cell ≡ record { kind = kind; of = of } =
      same_Some e.cell.cell (record { kind = kind; of = of }) (sym e.cell.there ∙ at) in
      none_ e.variable (subst (λ (z : Cell). IsOf e.variable z.kind) same e.cell.is_of)

  pub value_not_even : (m : Made) (of : IntType) → Grown (with_cell m OfValue of) → Even (next_cell m) → ⊥
  value_not_even m of h = not_even (next_cell m) OfValue of (λ v i. i)
      (h.cells (next_cell m) (record { kind = OfValue; of = of }) (last_there m.cells (record {
        kind = OfValue;
        of = of;
      })))

  pub flag_not_even : (m : Made) (of : IntType) → Grown (with_cell m OfFlag of) → Even (next_cell m) → ⊥
  flag_not_even m of h = not_even (next_cell m) OfFlag of (λ v i. i) (h.cells (next_cell m) (record {
    kind = OfFlag;
    of = of;
  }) (last_there m.cells (record { kind = OfFlag; of = of })))

  pub action_back : (here : Instance) (action : Action) (values : List Value) (m : Made) →
      Grown (action_code here action values m).made → Grown m
  action_back here action values m =
      making.action_makes Back back_same back_before back_value back_flag here action values m

  pub opened_back : (way : Option ℕ) (exit : ℕ) (m : Made) → Grown (opened way exit m).made → Grown m
  opened_back way exit m = making.opened_makes Back back_same back_before back_value back_flag way exit m

  pub outward_back : (way : Option ℕ) (exit outer : ℕ) (m : Made) → Grown (outward way exit outer m).made → Grown m
  outward_back way exit outer m = making.outward_makes Back back_same back_before back_value back_flag way exit outer m

  pub round_back : (site : ℕ) (first : Test) (way : Option ℕ) (exit : ℕ) (test : Lines) (answer : Value)
      (step body : Lines) (m : Made) → Grown (round_code site first way exit test answer step body m).made → Grown m
  round_back site first way exit test answer step body m =
      making.round_makes Back back_same back_before back_value back_flag site first way exit test answer step body m

  pub selected_back : (site : ℕ) (v : Value) (arms : Arms) (m : Made) → Grown (selected site v arms m).made → Grown m
  selected_back site v arms m = making.selected_makes Back back_same back_before back_value back_flag site v arms m

  pub entry_back : (chosen fallen : Atom) (k : ℕ) (m : Made) → Grown (entry_code chosen fallen k m).made → Grown m
  entry_back chosen fallen k m = making.entry_makes Back back_same back_before back_value back_flag chosen fallen k m

  pub fallen_back : (way : Option ℕ) (exit : ℕ) (entered : Value) (m : Made) →
      Grown (fallen_code way exit entered m).made → Grown m
  fallen_back way exit entered m =
      making.fallen_makes Back back_same back_before back_value back_flag way exit entered m

  -- what calls make stays
  abbrev pub CallsBack : Calls → Type 0
  CallsBack calls = (here : Instance) (site function : ℕ) (roots : List Root) (values : List Value) (m : Made) →
      Grown (calls here site function roots values m).made → Grown m

  module _ (calls : Calls) (call : CallsBack calls) (here : Instance) where
    pub expression_back : (e : Expression) (m : Made) → Grown (expression_code calls here e m).made → Grown m
    expression_back e m = making.expression_makes Back back_same back_before back_value back_flag calls here
        (λ site function roots values m. call here site function roots values m) e m

    pub operands_back : (list : Expressions) (m : Made) → Grown (operands_code calls here list m).made → Grown m
    operands_back list m = making.operands_make Back back_same back_before back_value back_flag calls here
        (λ site function roots values m. call here site function roots values m) list m

    pub optional_back : (e : Option Expression) (m : Made) → Grown (optional_code calls here e m).made → Grown m
    optional_back e m = making.optional_makes Back back_same back_before back_value back_flag calls here
        (λ site function roots values m. call here site function roots values m) e m

    pub statement_back : (exit : ℕ) (s : Statement) (m : Made) → Grown (statement_code calls here exit s m).made →
        Grown m
    statement_back exit s m = making.statement_makes Back back_same back_before back_value back_flag calls here
        (λ site function roots values m. call here site function roots values m) exit s m

    pub list_back : (exit : ℕ) (guarded : Test) (list : Statements) (m : Made) →
        Grown (list_code calls here exit guarded list m).made → Grown m
    list_back exit guarded list m =
        making.list_makes Back back_same back_before back_value back_flag calls here (λ site function roots values m.
        call here site function roots values m) exit guarded list m

    pub arms_back : (exit site : ℕ) (chosen fallen : Atom) (k : ℕ) (arms : Arms) (m : Made) →
        Grown (arms_code calls here exit site chosen fallen k arms m).made → Grown m
    arms_back exit site chosen fallen k arms m =
        making.arms_make Back back_same back_before back_value back_flag calls here (λ site function roots values m.
        call here site function roots values m) exit site chosen fallen k arms m
