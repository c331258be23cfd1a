-- The plan of a compiled kernel, from what the passes answer.
use Rattle.std.proofs.Common.{◌≡◌, ℕ, zero, suc, List, [], ◌∷◌, length, map, unwrap_or, refl, sym, ap, subst, ◌∙◌}
use Rattle.std.specs.Prelude.{slice_get}
use Rattle.wg_num.specs.declared.types.Width.{Width}
use Rattle.wg_num.specs.Operators.{lanes_of}
use Rattle.cl_model.specs.Calls.{no_function}
use Rattle.cl_model.specs.Tree.{Program}
use Rattle.cl_model.specs.Valid.{IsValid}
use Rattle.cl_model.specs.Agreement.{Owned}
use Rattle.diverge_sound.proofs.Carried.{carries}
use Rattle.diverge_sound.proofs.Once as agrees
use Rattle.cl_meaning.specs.Environment.{Variable as NamedVariable}
use Rattle.cl_meaning.specs.Typed.{Unit', Function}
use Rattle.cl_check_sound.specs.Erased.{program_of, function_of}
use Rattle.kir.specs.Tree.{Variable, Cell, Kernel}
use Rattle.kir.specs.Homes as kir
use Rattle.kir.specs.Homes.{IsCellOf}
use Rattle.kir.specs.Lowering.{Named, IsNamedCell, HasCells, IsSteady}
use Rattle.kir_lower.specs.Whole.{lowered_of}
use Rattle.kir_lower_shape.proofs.Cells.{has_cells}
use Rattle.kir_simplify.specs.Passes.{simplified_of}
use Rattle.kir_simplify.proofs.RoundsEnd.{simplified_kept}
use Rattle.diverge.specs.Rounds.{varying_of}
use Rattle.diverge_exact.proofs.Answers.{varying_exact}
use Rattle.ctx_plan.specs.declared.plan.Home.TheVariants as home
use Rattle.ctx_plan.specs.Planned.{Planned, AreVarying, IsCounted, IsPlan}
use Rattle.ctx_plan_correct.proofs.Plan.{homes_fit, is_plan}
use Rattle.lane_code.specs.Program.{PlainCode, Plain}
use Rattle.lane_laws.specs.Chain.{Chain, NoWork, work_before, works_before}
use Rattle.regions.specs.Tree.{RegionOf, Tree, NoRegion, RegionThen, VoteThen, LoopThen}
use Rattle.regions.specs.Split.{split_of}
use Rattle.item_loops.specs.Program.{HasPartsOf, IsBuilt}
use Rattle.wg_compile.specs.Correct.{HoldsEqual, KeepsOnceWhatIsEqual, KeepsOnceIn}
use Rattle.wg_compile.proofs.Outcomes.{steady_home, once_is_steady}
use Rattle.wg_compile.specs.Passes.{names_in, kernel_in, plan_in, code_in, works_of, group_in, IsLike}

-- each function has as many names as variables
abbrev names_given : List NamedVariable → List Named
names_given vs = map (λ v. record { name = v.name; place = v.place }) vs

as_many : (vs : List NamedVariable) →
    length (names_given vs) ≡ length (map (λ (v : NamedVariable). v.kind) vs)
as_many [] = refl
as_many (v ∷ vs) = ap suc (as_many vs)

pub named_as : (functions : List Function) (f : ℕ)
    → length {A = Named} (unwrap_or (slice_get (map (λ (g : Function). names_given g.variables) functions) f) []) ≡
    length (unwrap_or (slice_get (map function_of functions) f) no_function).variables
named_as [] f = refl
named_as (g ∷ functions) zero = as_many g.variables
named_as (g ∷ functions) (suc f) = named_as functions f

-- the codes of a tree, read from its front, are those of its regions
works_built : (code : RegionOf → PlainCode) (tree : Tree) →
    IsBuilt (λ region c. c ≡ code region) tree (works_before (works_of code tree) NoWork)
works_built code NoRegion = tt
works_built code (RegionThen region rest) = (refl, works_built code rest)
works_built code (VoteThen test agreed refused mixed rest) =
    (refl, works_built code agreed, works_built code refused, refl, works_built code rest)
works_built code (LoopThen first test body others rest) =
    (refl, works_built code test, works_built code body, refl, works_built code rest)

-- the codes of a program that is like that of the unit are those of the unit's regions
pub built_in : (u : Unit') (width : Width) (p : Plain) → IsLike (group_in (lanes_of width) u) p →
    IsBuilt (λ region code. code ≡ code_in (kernel_in u) (plan_in u).homes region) (split_of (kernel_in u))
    (work_before p.top NoWork)
unfolding group_in
built_in u width p like =
    let code = code_in (kernel_in u) (plan_in u).homes in
    subst (λ (c : Chain). IsBuilt (λ region c'. c' ≡ code region) (split_of (kernel_in u)) c) (sym like.chain)
    (works_built code (split_of (kernel_in u)))

-- each cell has its home
pub homes_in : (u : Unit') → IsValid (program_of u) → HasCells (program_of u) (names_in u) (kernel_in u) →
    AreVarying (program_of u) (varying_of (program_of u)) → IsCounted (kernel_in u) (plan_in u) →
    IsPlan (program_of u) (kernel_in u) (plan_in u)
unfolding plan_in
homes_in u valid cells varies counted =
    is_plan (program_of u) (names_in u) (kernel_in u) (varying_of (program_of u)) valid cells varies counted

-- the parts of a group program are those of the unit's kernel and plan
pub parts_in : (u : Unit') (width : Width) (kernel : Kernel) (plan : Planned) (p : Plain) → kernel ≡ kernel_in u →
    plan ≡ plan_in u → HasPartsOf kernel plan width p → HasPartsOf (kernel_in u) (plan_in u) width p
parts_in u width kernel plan p kernel_is plan_is parts =
    subst (λ (x : Planned). HasPartsOf (kernel_in u) x width p) plan_is
    (subst (λ (k : Kernel). HasPartsOf k plan width p) kernel_is parts)

-- a cell of a variable that does not vary is that of one with equal values
equal_if_steady : (program : Program) (kernel : Kernel) (c : ℕ) → IsValid program → IsSteady program kernel c →
    (v : Variable) × IsCellOf kernel v c × HoldsEqual program v
equal_if_steady program kernel c valid steady =
    let owned : Owned = record { function = steady.variable.function; variable = steady.variable.number } in (
      steady.variable,
      steady.cell,
      λ launch fits buffers.
          let alike = agrees.once program launch buffers valid fits owned steady.steady in
          (alike, carries program launch buffers valid fits owned alike),
    )

-- what is kept once for a group is a variable that does not vary, which has equal values
pub kept_once : (program : Program) (kernel : Kernel) (plan : Planned) → IsValid program →
    IsPlan program kernel plan → KeepsOnceWhatIsEqual program kernel plan
kept_once program kernel plan valid is c s at =
    equal_if_steady program kernel c valid (once_is_steady program kernel plan is c (record { slot = s; home = at }))

-- ---- the same, whatever a call of the passes answers

-- cells that are the same ones are those of the same variables
module _ (program : Program) (names : List (List Named)) (kernel other : Kernel)
    (same : other.cells ≡ kernel.cells) where
  abbrev in_both : (c : ℕ) → slice_get other.cells c ≡ slice_get kernel.cells c
  in_both c = ap (λ (cells : List Cell). slice_get cells c) same

  cell_of_kernel : (v : Variable) (c : ℕ) → IsCellOf other v c → IsCellOf kernel v c
  cell_of_kernel v c h = record { cell = h.cell; there = sym (in_both c) ∙ h.there; is_of = h.is_of }

  named_in_other : (v : Variable) (c : ℕ) → IsNamedCell program names kernel v c → IsNamedCell program names other v c
  named_in_other v c h = record {
    entry = h.entry;
    named_so = h.named_so;
    kind = h.kind;
    of_kind = h.of_kind;
    calls = h.calls;
    places = h.places;
    cell = in_both c ∙ h.cell;
  }

  cells_of_other : HasCells program names kernel → HasCells program names other
  cells_of_other h = record {
    each = λ v is. let here = h.each v is in (here.0, named_in_other v here.0 here.1);
    one = λ v c d a b. h.one v c d (cell_of_kernel v c a) (cell_of_kernel v d b);
    no_other = λ v c a. h.no_other v c (cell_of_kernel v c a);
  }

-- the cells of the simple kernel are the variables of the inlined program
cells_in : (u : Unit') → IsValid (program_of u) → HasCells (program_of u) (names_in u) (kernel_in u)
unfolding kernel_in
cells_in u valid =
    let lowered = lowered_of (program_of u) (names_in u) in
    cells_of_other (program_of u) (names_in u) lowered (simplified_of lowered)
    (ap (λ (k : Kernel). k.cells) (simplified_kept lowered))
    (has_cells (program_of u) (names_in u) valid (named_as u.functions))

-- what is kept once of the unit of a valid program has equal values
pub kept_in : (u : Unit') → IsValid (program_of u) → KeepsOnceIn u
unfolding plan_in
kept_in u valid c s at =
    let varies = λ (v : Variable). varying_exact (program_of u) valid v.function v.number in
    let home = homes_fit (program_of u) (names_in u) (kernel_in u) (varying_of (program_of u)) valid
    (cells_in u valid) varies c (home.Once s) at in
    equal_if_steady (program_of u) (kernel_in u) c valid (steady_home (program_of u) (kernel_in u) c kir.Once home refl)
