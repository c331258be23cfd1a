-- What the passes answer, put together: a kernel that comes from a program, with its plan and the code of each
-- region, ends in outcomes of the program.
use Rattle.std.proofs.Common.{◌≡◌, ◌≢◌, ℕ, true, List, Some, slice_get, refl, subst, sym, ◌∙◌}
use Rattle.std.proofs.lemmas.Bool.{true≢false}
use Rattle.wg_num.specs.declared.types.Width.{Width}
use Rattle.cl_model.specs.Tree.{Program}
use Rattle.cl_model.specs.Sizes.{Launch}
use Rattle.cl_model.specs.Fitting.{FitsProgram}
use Rattle.kir.specs.Tree.{Kernel}
use Rattle.kir.specs.Fits.{lines_fit}
use Rattle.kir.specs.Homes as kir
use Rattle.kir.specs.Homes.{HasHome, once, column, kept, inner, passing}
use Rattle.kir.specs.Places.{Place}
use Rattle.kir.specs.Live.{live_at}
use Rattle.kir.specs.Cuts.{is_cut}
use Rattle.kir.specs.Uniformity.{IsEven}
use Rattle.kir.specs.Lowering.{Named, IsSteady, IsLoweringOf}
use Rattle.kir.proofs.Kept.{live_are_kept}
use Rattle.kir.proofs.Outcomes.{shares_outcomes}
use Rattle.kir.proofs.Shells.{shares_launches}
use Rattle.ctx_plan.specs.declared.plan.Home.{Home}
use Rattle.ctx_plan.specs.declared.plan.Home.TheVariants as home
use Rattle.ctx_plan.specs.Homes.{IsOnce, sort_of}
use Rattle.ctx_plan.specs.Planned.{Planned, IsPlan}
use Rattle.ctx_plan.specs.Asks.{Suits}
use Rattle.lane_code.specs.Program.{PlainCode, Plain}
use Rattle.lane_code.specs.Run.{program_end}
use Rattle.lane_laws.specs.Chain.{Chain, NoWork, CodeThen, VoteThen as VoteWork, LoopThen as LoopWork, work_before}
use Rattle.regions.specs.Tree.{RegionOf, Tree, NoRegion, RegionThen, VoteThen, LoopThen}
use Rattle.regions.specs.Fragments.{EachRegion}
use Rattle.regions.specs.Split.{split_of}
use Rattle.mask_lower.specs.Following.{Follows}
use Rattle.item_loops.specs.Program.{HasPartsOf, IsBuilt}
use Rattle.wg_compile.specs.Passes.{code_in}
use Rattle.wg_compile.specs.Ends.{EndsInOutcomes, EndHasPlace}
use Rattle.wg_compile.proofs.Chain.{built_in_outcomes}

-- ---- the codes of a tree

-- where each code is that of its region, what holds of the code of each region holds of the codes of the chain
pub built_by : (Does : RegionOf → PlainCode → Type 0) (code : RegionOf → PlainCode) (tree : Tree) (chain : Chain) →
    EachRegion (λ r. Does r (code r)) tree → IsBuilt (λ r c. c ≡ code r) tree chain → IsBuilt Does tree chain
built_by Does code NoRegion NoWork all built = tt
built_by Does code (RegionThen region rest) (CodeThen c behind) all built =
    (subst (λ x. Does region x) (sym built.0) all.0, built_by Does code rest behind all.1 built.1)
built_by Does code (VoteThen test agreed refused mixed rest) (VoteWork t a r m behind) all built = (
  subst (λ x. Does test x) (sym built.0) all.0,
  built_by Does code agreed a all.2 built.1,
  built_by Does code refused r all.3 built.2,
  subst (λ x. Does mixed x) (sym built.3) all.1,
  built_by Does code rest behind all.4 built.4,
)
built_by Does code (LoopThen first test body others rest) (LoopWork f t b o behind) all built = (
  built.0,
  built_by Does code test t all.1 built.1,
  built_by Does code body b all.2 built.2,
  subst (λ x. Does others x) (sym built.3) all.0,
  built_by Does code rest behind all.3 built.4,
)
built_by Does code NoRegion (CodeThen c behind) all built = absurd built
built_by Does code NoRegion (VoteWork t a r m behind) all built = absurd built
built_by Does code NoRegion (LoopWork f t b o behind) all built = absurd built
built_by Does code (RegionThen region rest) NoWork all built = absurd built
built_by Does code (RegionThen region rest) (VoteWork t a r m behind) all built = absurd built
built_by Does code (RegionThen region rest) (LoopWork f t b o behind) all built = absurd built
built_by Does code (VoteThen test agreed refused mixed rest) NoWork all built = absurd built
built_by Does code (VoteThen test agreed refused mixed rest) (CodeThen c behind) all built = absurd built
built_by Does code (VoteThen test agreed refused mixed rest) (LoopWork f t b o behind) all built = absurd built
built_by Does code (LoopThen first test body others rest) NoWork all built = absurd built
built_by Does code (LoopThen first test body others rest) (CodeThen c behind) all built = absurd built
built_by Does code (LoopThen first test body others rest) (VoteWork t a r m behind) all built = absurd built

-- ---- slots

-- a cell that has a once slot by its home is that of a variable that does not vary
pub steady_home : (program : Program) (kernel : Kernel) (c : ℕ) (h : kir.Home) → HasHome program kernel c h →
    h ≡ kir.Once → IsSteady program kernel c
steady_home program kernel c _ (once {v = v} cell crosses steady) e =
    record { variable = v; cell = cell; steady = steady }
steady_home program kernel c _ (column cell crosses varies) e = absurd (cc)
steady_home program kernel c _ (kept keep) e = absurd (cc)
steady_home program kernel c _ (inner cell not) e = absurd (cc)
steady_home program kernel c _ (passing made not) e = absurd (cc)

pub once_is_steady : (program : Program) (kernel : Kernel) (plan : Planned) → IsPlan program kernel plan → (c : ℕ) →
    IsOnce plan.homes c → IsSteady program kernel c
once_is_steady program kernel plan planned c o =
    steady_home program kernel c (sort_of (home.Once o.slot)) (planned.homes c (home.Once o.slot) o.home) refl

-- the kernel is even in the cells that the plan keeps once
pub even_once : (program : Program) (names : List (List Named)) (kernel : Kernel) (plan : Planned) →
    IsLoweringOf program names kernel → IsPlan program kernel plan → IsEven kernel (IsOnce plan.homes)
even_once program names kernel plan lowered planned launch fits buffers fit one other lt lt' group deeds deeds' i j hi
    hj point at_i at_j stop c o live =
    lowered.evenness launch fits buffers fit one other lt lt' group deeds deeds' i j hi hj point at_i at_j stop c
    (once_is_steady program kernel plan planned c o) live

-- ---- homes

-- no cell that is live at a cut is in registers alone: a variable that is live there crosses, and a flag or value is
-- a keep
no_register : (program : Program) (names : List (List Named)) (kernel : Kernel) → IsLoweringOf program names kernel →
    (at : Place) (c : ℕ) (h : kir.Home) → is_cut kernel.body at ≡ true → live_at kernel.body at c ≡ true →
    HasHome program kernel c h → h ≡ kir.Register → ⊥
no_register program names kernel lowered at c _ cut live (once cell crosses steady) e = absurd (cc)
no_register program names kernel lowered at c _ cut live (column cell crosses varies) e = absurd (cc)
no_register program names kernel lowered at c _ cut live (kept keep) e = absurd (cc)
no_register program names kernel lowered at c _ cut live (inner {v = v} cell not) e =
    not (lowered.cuts.crosses at v c cut cell live)
no_register program names kernel lowered at c _ cut live (passing made not) e =
    true≢false (sym (live_are_kept kernel lowered.start at c cut live made) ∙ not)

-- the homes suit the kernel
pub suits : (program : Program) (names : List (List Named)) (kernel : Kernel) (plan : Planned) →
    IsLoweringOf program names kernel → IsPlan program kernel plan → Suits kernel plan
suits program names kernel plan lowered planned = record {
  even = even_once program names kernel plan lowered planned;
  one_each = planned.one_each;
  columns_below = planned.columns_below;
  slots_below = planned.slots_below;
  kept = in_register;
  apart = two;
}
  where
    in_register : (at : Place) (c : ℕ) → is_cut kernel.body at ≡ true → live_at kernel.body at c ≡ true →
        slice_get plan.homes c ≡ Some home.Register → ⊥
    in_register at c cut live is =
        no_register program names kernel lowered at c kir.Register cut live (planned.homes c home.Register is) refl

    two : (at : Place) (c d : ℕ) (h : Home) → is_cut kernel.body at ≡ true → live_at kernel.body at c ≡ true →
        live_at kernel.body at d ≡ true → c ≢ d → slice_get plan.homes c ≡ Some h → slice_get plan.homes d ≡ Some h → ⊥
    two at c d home.Register cut live live' ne is is' = in_register at c cut live is
    two at c d (home.Column k) cut live live' ne is is' = let s =
        planned.shared c d k ne is is' in lowered.cuts.meet at s.0 s.1 c d cut s.2 s.3 ne live live' s.4
    two at c d (home.Once k) cut live live' ne is is' = ne (planned.own_slot c d k is is')

-- ---- the whole

-- a valid kernel that comes from the program, with its plan, and the program of a group whose codes are those of its
-- regions: where each follows its region, the ends are outcomes of the program
pub passes_in_outcomes : (program : Program) (names : List (List Named)) (kernel : Kernel) (plan : Planned)
    (width : Width) (p : Plain) → IsLoweringOf program names kernel → lines_fit kernel kernel.body ≡ true →
    IsPlan program kernel plan
    → HasPartsOf kernel plan width p →
    IsBuilt (λ region code. code ≡ code_in kernel plan.homes region) (split_of kernel)
    (work_before p.top NoWork)
    → ((launch : Launch) (buffers : List (List ℕ)) → FitsProgram program launch →
    EndHasPlace program (program_end p launch buffers).end)
    → EachRegion (λ region. Follows kernel plan width region (code_in kernel plan.homes region)) (split_of kernel)
    → EndsInOutcomes program p
passes_in_outcomes program names kernel plan width p lowered valid planned parts built places follows =
    built_in_outcomes program kernel plan width p
    (shares_outcomes program kernel lowered.matching.point_in_program lowered.matching.runs)
    (shares_launches program kernel lowered.arrays lowered.parts)
    places valid (even_once program names kernel plan lowered planned) parts
    (built_by (Follows kernel plan width) (code_in kernel plan.homes) (split_of kernel) (work_before p.top NoWork)
    follows built)
