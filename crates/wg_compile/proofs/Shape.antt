-- What the codes of a kernel's regions have of its text: no more loads and stores than are written, and one code
-- where no barrier is.
use Rattle.std.proofs.Common.{◌≡◌, ℕ, ◌<◌, ◌≤◌, List, [], ◌∷◌, refl, sym, ap, subst, true, false, inl, inr, arith}
use Rattle.std.specs.Prelude.{◌||◌, nat_eq, if◌then◌else◌}
use Rattle.std.specs.Prelude.{Bool as Test}
use Rattle.std.proofs.lemmas.Bool.{true≢false, or_cases}
use Rattle.std.proofs.lemmas.Bool.Decides.{nat_tests}
use Rattle.cl_model.specs.Tree.{Program}
use Rattle.kir.specs.Tree.{Lines, NoLine, SetThen, LoadThen, StoreThen, ClearThen, IfThen, LoopThen, BarrierThen}
use Rattle.kir.specs.Tree.{joined_to, Kernel}
use Rattle.kir.specs.Places.{Behind, IntoChosen, IntoOther, IntoTest, ToAnswer, IntoBody, Place, behind, chosen_of}
use Rattle.kir.specs.Places.{other_of, test_of, body_of, lines_at}
use Rattle.kir.specs.Cuts.{holds_barrier}
use Rattle.kir.specs.Counts.{once_if, load_lines, store_lines, barrier_lines, HasFewLines}
use Rattle.kir.specs.Inlined.{function_holds}
use Rattle.ctx_plan.specs.declared.plan.Home.{Home}
use Rattle.lane_code.specs.Program.{PlainCode, Work, Items, Seq, Vote, Loop, Works, idle, then_work}
use Rattle.lane_laws.specs.Chain.{Chain, NoWork, CodeThen, VoteThen as VoteWork, LoopThen as LoopWork, work_before}
use Rattle.lane_laws.specs.Chain.{works_before}
use Rattle.regions.specs.Tree as tree
use Rattle.regions.specs.Tree.{RegionOf}
use Rattle.regions.specs.Fragments.{EachRegion, IsPiece}
use Rattle.regions.specs.Split.{split_of}
use Rattle.regions.proofs.Fragments.{split_pieces}
use Rattle.mask_lower.specs.Counts.{load_steps, store_steps}
use Rattle.mask_lower.specs.Lowered.{region_code, region_steps}
use Rattle.mask_lower.proofs.Tallies.{same_accesses}
use Rattle.item_loops.specs.Program.{IsBuilt, EachCode, EachCodeOf}
use Rattle.wg_compile.specs.Passes.{code_in}
use Rattle.wg_compile.specs.Shape.{HasFewSteps}
use Rattle.wg_compile.proofs.Tidied.{few_tidied}
use Rattle.wg_compile.proofs.Outcomes.{built_by}
use Rattle.wg_compile.proofs.Quiet.{inlined_none}

-- ---- lines of a piece stand in the text

loads_joined : (site : ℕ) (lines tail : Lines) → load_lines site lines ≤ load_lines site (joined_to lines tail)
loads_joined site NoLine tail = omega arith
loads_joined site (SetThen to work rest) tail = loads_joined site rest tail
loads_joined site (LoadThen at to element root index rest) tail = omega (arith, loads_joined site rest tail)
loads_joined site (StoreThen at element root index from rest) tail = loads_joined site rest tail
loads_joined site (ClearThen array rest) tail = loads_joined site rest tail
loads_joined site (IfThen at test chosen other rest) tail = omega (arith, loads_joined site rest tail)
loads_joined site (LoopThen at first test answer body rest) tail = omega (arith, loads_joined site rest tail)
loads_joined site (BarrierThen at rest) tail = loads_joined site rest tail

stores_joined : (site : ℕ) (lines tail : Lines) → store_lines site lines ≤ store_lines site (joined_to lines tail)
stores_joined site NoLine tail = omega arith
stores_joined site (SetThen to work rest) tail = stores_joined site rest tail
stores_joined site (LoadThen at to element root index rest) tail = stores_joined site rest tail
stores_joined site (StoreThen at element root index from rest) tail = omega (arith, stores_joined site rest tail)
stores_joined site (ClearThen array rest) tail = stores_joined site rest tail
stores_joined site (IfThen at test chosen other rest) tail = omega (arith, stores_joined site rest tail)
stores_joined site (LoopThen at first test answer body rest) tail = omega (arith, stores_joined site rest tail)
stores_joined site (BarrierThen at rest) tail = stores_joined site rest tail

-- the parts of lines have no more than the lines
record HasLess (count : Lines → ℕ) (lines : Lines) : Type 0 where
  rest : count (behind lines) ≤ count lines
  chosen : count (chosen_of lines) ≤ count lines
  other : count (other_of lines) ≤ count lines
  test : count (test_of lines) ≤ count lines
  body : count (body_of lines) ≤ count lines

less_loads : (site : ℕ) (lines : Lines) → HasLess (load_lines site) lines
less_loads site NoLine =
    record { rest = omega arith; chosen = omega arith; other = omega arith; test = omega arith; body = omega arith }
less_loads site (SetThen to work rest) =
    record { rest = omega arith; chosen = omega arith; other = omega arith; test = omega arith; body = omega arith }
less_loads site (LoadThen at to element root index rest) =
    record { rest = omega arith; chosen = omega arith; other = omega arith; test = omega arith; body = omega arith }
less_loads site (StoreThen at element root index from rest) =
    record { rest = omega arith; chosen = omega arith; other = omega arith; test = omega arith; body = omega arith }
less_loads site (ClearThen array rest) =
    record { rest = omega arith; chosen = omega arith; other = omega arith; test = omega arith; body = omega arith }
less_loads site (IfThen at test chosen other rest) =
    record { rest = omega arith; chosen = omega arith; other = omega arith; test = omega arith; body = omega arith }
less_loads site (LoopThen at first test answer body rest) =
    record { rest = omega arith; chosen = omega arith; other = omega arith; test = omega arith; body = omega arith }
less_loads site (BarrierThen at rest) =
    record { rest = omega arith; chosen = omega arith; other = omega arith; test = omega arith; body = omega arith }

less_stores : (site : ℕ) (lines : Lines) → HasLess (store_lines site) lines
less_stores site NoLine =
    record { rest = omega arith; chosen = omega arith; other = omega arith; test = omega arith; body = omega arith }
less_stores site (SetThen to work rest) =
    record { rest = omega arith; chosen = omega arith; other = omega arith; test = omega arith; body = omega arith }
less_stores site (LoadThen at to element root index rest) =
    record { rest = omega arith; chosen = omega arith; other = omega arith; test = omega arith; body = omega arith }
less_stores site (StoreThen at element root index from rest) =
    record { rest = omega arith; chosen = omega arith; other = omega arith; test = omega arith; body = omega arith }
less_stores site (ClearThen array rest) =
    record { rest = omega arith; chosen = omega arith; other = omega arith; test = omega arith; body = omega arith }
less_stores site (IfThen at test chosen other rest) =
    record { rest = omega arith; chosen = omega arith; other = omega arith; test = omega arith; body = omega arith }
less_stores site (LoopThen at first test answer body rest) =
    record { rest = omega arith; chosen = omega arith; other = omega arith; test = omega arith; body = omega arith }
less_stores site (BarrierThen at rest) =
    record { rest = omega arith; chosen = omega arith; other = omega arith; test = omega arith; body = omega arith }

up : {a b c : ℕ} → a ≤ b → b ≤ c → a ≤ c
up h k = omega arith

-- so the lines at a place have no more than the whole text
at_place : (count : Lines → ℕ) → count NoLine ≡ 0 → ((lines : Lines) → HasLess count lines) →
    (text : Lines) (at : Place) → count (lines_at text at) ≤ count text
at_place count none less text [] = omega arith
at_place count none less text (Behind ∷ at) = up (less (lines_at text at)).rest (at_place count none less text at)
at_place count none less text (IntoChosen ∷ at) = up (less (lines_at text at)).chosen (at_place count none less text at)
at_place count none less text (IntoOther ∷ at) = up (less (lines_at text at)).other (at_place count none less text at)
at_place count none less text (IntoTest ∷ at) = up (less (lines_at text at)).test (at_place count none less text at)
at_place count none less text (ToAnswer ∷ at) = omega (arith, none)
at_place count none less text (IntoBody ∷ at) = up (less (lines_at text at)).body (at_place count none less text at)

piece_loads : (kernel : Kernel) (region : RegionOf) → IsPiece kernel region → (site : ℕ) →
    load_lines site region.lines ≤ load_lines site kernel.body
piece_loads kernel region p site =
    up (loads_joined site region.lines p.tail) (subst (λ (l : Lines). load_lines site l ≤ load_lines site kernel.body)
    p.stands (at_place (load_lines site) refl (less_loads site) kernel.body p.at))

piece_stores : (kernel : Kernel) (region : RegionOf) → IsPiece kernel region → (site : ℕ) →
    store_lines site region.lines ≤ store_lines site kernel.body
piece_stores kernel region p site =
    up (stores_joined site region.lines p.tail)
    (subst (λ (l : Lines). store_lines site l ≤ store_lines site kernel.body) p.stands
    (at_place (store_lines site) refl (less_stores site) kernel.body p.at))

-- ---- the codes

few_steps : (program : Program) (kernel : Kernel) (homes : List Home) → HasFewLines program kernel →
    (region : RegionOf) → IsPiece kernel region → HasFewSteps program (region_code kernel homes region)
few_steps program kernel homes few region piece =
    let same = same_accesses kernel homes region in
    record {
      loads = λ site. up (subst (λ n. load_steps site (region_steps kernel homes region) ≤ n) (same.loads site)
          (omega arith)) (up (piece_loads kernel region piece site) (few.loads site));
      stores = λ site. up (subst (λ n. store_steps site (region_steps kernel homes region) ≤ n) (same.stores site)
          (omega arith)) (up (piece_stores kernel region piece site) (few.stores site));
    }

each_region : (P Q : RegionOf → Type 0) → ((r : RegionOf) → P r → Q r) → (t : tree.Tree) → EachRegion P t →
    EachRegion Q t
each_region P Q f tree.NoRegion e = tt
each_region P Q f (tree.RegionThen region rest) e = (f region e.0, each_region P Q f rest e.1)
each_region P Q f (tree.VoteThen test agreed refused mixed rest) e =
    (f test e.0, f mixed e.1, each_region P Q f agreed e.2, each_region P Q f refused e.3, each_region P Q f rest e.4)
each_region P Q f (tree.LoopThen first test body others rest) e =
    (f others e.0, each_region P Q f test e.1, each_region P Q f body e.2, each_region P Q f rest e.3)

-- something holds of each code of a chain
abbrev pub EachLink : (PlainCode → Type 0) → Chain → Type 0
EachLink P NoWork = Unit {0}
EachLink P (CodeThen code rest) = P code × EachLink P rest
EachLink P (VoteWork test agreed refused mixed rest) =
    P test × EachLink P agreed × EachLink P refused × P mixed × EachLink P rest
EachLink P (LoopWork first test body others rest) = EachLink P test × EachLink P body × P others × EachLink P rest

links : (P : PlainCode → Type 0) (t : tree.Tree) (chain : Chain) → IsBuilt (λ r c. P c) t chain → EachLink P chain
links P tree.NoRegion NoWork b = tt
links P (tree.RegionThen region rest) (CodeThen c behind) b = (b.0, links P rest behind b.1)
links P (tree.VoteThen test agreed refused mixed rest) (VoteWork t a r m behind) b =
    (b.0, links P agreed a b.1, links P refused r b.2, b.3, links P rest behind b.4)
links P (tree.LoopThen first test body others rest) (LoopWork f t c o behind) b =
    (links P test t b.1, links P body c b.2, b.3, links P rest behind b.4)
links P tree.NoRegion (CodeThen c behind) b = absurd b
links P tree.NoRegion (VoteWork t a r m behind) b = absurd b
links P tree.NoRegion (LoopWork f t c o behind) b = absurd b
links P (tree.RegionThen region rest) NoWork b = absurd b
links P (tree.RegionThen region rest) (VoteWork t a r m behind) b = absurd b
links P (tree.RegionThen region rest) (LoopWork f t c o behind) b = absurd b
links P (tree.VoteThen test agreed refused mixed rest) NoWork b = absurd b
links P (tree.VoteThen test agreed refused mixed rest) (CodeThen c behind) b = absurd b
links P (tree.VoteThen test agreed refused mixed rest) (LoopWork f t c o behind) b = absurd b
links P (tree.LoopThen first test body others rest) NoWork b = absurd b
links P (tree.LoopThen first test body others rest) (CodeThen c behind) b = absurd b
links P (tree.LoopThen first test body others rest) (VoteWork t a r m behind) b = absurd b

mutual
  each_before : (P : PlainCode → Type 0) (work : Work) (rest : Chain) → EachLink P (work_before work rest) →
      EachCode P work × EachLink P rest
  each_before P (Items code) rest e = (e.0, e.1)
  each_before P (Seq works) rest e = all_before P works rest e
  each_before P (Vote test agreed refused mixed) rest e =
      ((e.0, (each_before P agreed NoWork e.1).0, (each_before P refused NoWork e.2).0, e.3), e.4)
  each_before P (Loop first test body others) rest e =
      (((each_before P test NoWork e.0).0, (each_before P body NoWork e.1).0, e.2), e.3)

  all_before : (P : PlainCode → Type 0) (works : Works) (rest : Chain) → EachLink P (works_before works rest) →
      EachCodeOf P works × EachLink P rest
  all_before P idle rest e = (tt, e)
  all_before P (then_work first others) rest e =
      let front = each_before P first (works_before others rest) e in
      let back = all_before P others rest front.1 in
      ((front.0, back.0), back.1)

-- each code of a program that is built of the kernel's regions accesses no more than the inlined kernel has written
pub codes_have_few : (program : Program) (kernel : Kernel) (homes : List Home) (top : Work) →
    HasFewLines program kernel → IsBuilt (λ region code. code ≡ code_in kernel homes region) (split_of kernel)
    (work_before top NoWork) → EachCode (HasFewSteps program) top
codes_have_few program kernel homes top few built =
    let all = each_region (IsPiece kernel) (λ r. HasFewSteps program (code_in kernel homes r))
    (λ r piece. few_tidied program (region_code kernel homes r) (few_steps program kernel homes few r piece)) (split_of
    kernel) (split_pieces kernel) in
    (each_before (HasFewSteps program) top NoWork (links (HasFewSteps program) (split_of kernel)
    (work_before top NoWork) (built_by (λ r c. HasFewSteps program c) (code_in kernel homes)
    (split_of kernel) (work_before top NoWork) all built))).0

-- ---- barriers

once_self : (n : ℕ) → once_if n n ≡ 1
once_self n = ap (λ b. if b then 1 else 0) (let q : nat_eq n n ≡ true = grind (arith, nat_tests) in q)

-- lines that hold a barrier have one with some site
has_barrier : (lines : Lines) → holds_barrier lines ≡ true → (site : ℕ) × (0 < barrier_lines site lines)
has_barrier NoLine h = absurd (true≢false (sym h))
has_barrier (SetThen to work rest) h = has_barrier rest h
has_barrier (LoadThen at to element root index rest) h = has_barrier rest h
has_barrier (StoreThen at element root index from rest) h = has_barrier rest h
has_barrier (ClearThen array rest) h = has_barrier rest h
has_barrier (IfThen at test chosen other rest) h =
    elim (or_cases (holds_barrier chosen) (holds_barrier other || holds_barrier rest) h) [
      | inl y ↦ (let f = has_barrier chosen y in (f.0, omega (arith, f.1)))
      | inr n ↦ elim (or_cases (holds_barrier other) (holds_barrier rest) n) [
        | inl y ↦ (let f = has_barrier other y in (f.0, omega (arith, f.1)))
        | inr m ↦ (let f = has_barrier rest m in (f.0, omega (arith, f.1)))
      ]
    ]
has_barrier (LoopThen at first test answer body rest) h =
    elim (or_cases (holds_barrier test) (holds_barrier body || holds_barrier rest) h) [
      | inl y ↦ (let f = has_barrier test y in (f.0, omega (arith, f.1)))
      | inr n ↦ elim (or_cases (holds_barrier body) (holds_barrier rest) n) [
        | inl y ↦ (let f = has_barrier body y in (f.0, omega (arith, f.1)))
        | inr m ↦ (let f = has_barrier rest m in (f.0, omega (arith, f.1)))
      ]
    ]
has_barrier (BarrierThen at rest) h = (at, omega (arith, once_self at))

none_held : (b : Test) → (b ≡ true → ⊥) → b ≡ false
none_held true h = absurd (h refl)
none_held false h = refl

-- a kernel that comes from a program without a barrier has none
pub holds_none : (program : Program) (kernel : Kernel) → HasFewLines program kernel →
    function_holds program program.kernel ≡ false → holds_barrier kernel.body ≡ false
holds_none program kernel few h =
    none_held (holds_barrier kernel.body) (λ held. let f = has_barrier kernel.body held in
    let none = inlined_none program f.0 h in let most = few.barriers f.0 in omega (arith, f.1, none, most))
