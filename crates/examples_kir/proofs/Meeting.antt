-- The lines of the smallest kernel with a barrier come from it.
use Rattle.std.proofs.Common.{◌≡◌, ℕ, zero, suc, pos, ◌<◌, List, [], ◌∷◌, length, Option, Some, None, slice_get}
use Rattle.std.proofs.Common.{option_map, refl, sym, ap, ◌∙◌, subst, true, arith}
use Rattle.std.proofs.lemmas.Option.{none-some, same_Some}
use Rattle.std.proofs.lemmas.Bool.{true≢false}
use Rattle.work_items.specs.Coming.{arrived, by_step, by_test, MayLead}
use Rattle.work_items.specs.Simulation.{GoesIn, both_end, both_wait, MatchesAt}
use Rattle.cl_model.specs.Tree.{Function, Barrier, Block, empty, also}
use Rattle.cl_model.specs.Sizes.{Launch}
use Rattle.cl_model.specs.Valid.{IsValidFunction, IsValid, CallsEnd}
use Rattle.cl_model.specs.Task.{Nth, Task, Run, Item as ProgramItem, Point as ProgramPoint, first_point}
use Rattle.cl_model.specs.Steps.{first_next, item_next as program_next}
use Rattle.cl_model.specs.Meaning.{machine_of as program_machine, kernel_frame, ItemCanCome as ProgramCanCome}
use Rattle.cl_model.specs.Meaning.{IsWithin, is_test}
use Rattle.kir.specs.Tree.{Variable, NoLine, BarrierThen}
use Rattle.kir.specs.Places.{Leg, Behind, IntoChosen, IntoOther, IntoTest, ToAnswer, IntoBody, Place, Point, Tasks}
use Rattle.kir.specs.Places.{NoTask, LinesAt, point_of, behind, chosen_of, other_of, test_of, body_of, lines_at}
use Rattle.kir.specs.Places.{loops_around}
use Rattle.kir.specs.Steps.{Item, item_next}
use Rattle.kir.specs.Meaning.{ItemCanCome}
use Rattle.kir.specs.Cuts.{is_barrier}
use Rattle.kir.specs.Homes.{IsCellOf}
use Rattle.kir.specs.Matching.{IsBarrierPoint, AreAlike}
use Rattle.kir.specs.Lowering.{HasParts}
use Rattle.kir.proofs.FromSteps.{HasSteps, from_steps}
use Rattle.examples_kir.specs.Lowered.{meeting, meeting_lines, MeetingIsLowered}

-- ---- the program is valid

abbrev meeting_function : Function
meeting_function = record { parameters = 0; result = None; variables = []; arrays = []; body = also (Barrier 0) empty }

valid_function : IsValidFunction meeting meeting_function
valid_function = record {
  parameters = omega arith;
  kinds = λ x kind e. absurd (none-some kind e);
  types = (tt, tt);
  scopes = (tt, tt);
  declared = λ x low high. absurd (omega arith);
  undeclared = λ x low. absurd (omega arith);
  exits = (tt, tt);
}

valid : IsValid meeting
valid = record {
  kernel = omega arith;
  tables = λ n table e. absurd (none-some table e);
  functions = functions;
  calls = calls;
  sites = (λ x. x, tt);
  places = (omega arith, tt);
  size = omega arith;
}
  where
    functions : (n : ℕ) (f : Function) → slice_get meeting.functions n ≡ Some f → IsValidFunction meeting f
    functions zero f e = subst (λ g. IsValidFunction meeting g) (same_Some _ _ e) valid_function
    functions (suc n) f e = absurd (none-some f e)

    calls : (n : ℕ) → n < 1 → CallsEnd meeting 1 n
    calls zero less = tt
    calls (suc n) less = absurd (omega arith)

-- ---- the items

-- the one point at which an item waits
abbrev at_barrier : Point → ProgramPoint
at_barrier point = Nth 0 ∷ []

abbrev program_item : Launch → ℕ → List Task → ProgramItem
program_item launch item tasks =
    record { number = item; tasks = tasks; values = []; frames = kernel_frame meeting launch item ∷ [] }

abbrev kernel_item : ℕ → Tasks → Item
kernel_item item tasks = record { number = item; cells = λ c. pos 0; tasks = tasks }

no_cell : (v : Variable) (c : ℕ) → IsCellOf meeting_lines v c → ⊥
no_cell v c h = none-some h.cell h.there

-- the text has one line
no_line : (leg : Leg) (at : Place) → lines_at (BarrierThen 0 NoLine) (leg ∷ at) ≡ NoLine
no_line Behind [] = refl
no_line IntoChosen [] = refl
no_line IntoOther [] = refl
no_line IntoTest [] = refl
no_line ToAnswer at = refl
no_line IntoBody [] = refl
no_line Behind (leg ∷ at) = ap behind (no_line leg at)
no_line IntoChosen (leg ∷ at) = ap chosen_of (no_line leg at)
no_line IntoOther (leg ∷ at) = ap other_of (no_line leg at)
no_line IntoTest (leg ∷ at) = ap test_of (no_line leg at)
no_line IntoBody (leg ∷ at) = ap body_of (no_line leg at)

abbrev front : Point
front = record { at = []; begun = [] }

one_barrier : (point : Point) → IsBarrierPoint (BarrierThen 0 NoLine) point → point ≡ front
one_barrier point b = by_place point.at point.begun refl refl b.barrier b.each_loop
  where
    by_begun : (begun : List ℕ) → length begun ≡ 0 → begun ≡ []
    by_begun [] e = refl
    by_begun (k ∷ begun) e = absurd (omega (arith, e))

    by_place : (at : Place) (begun : List ℕ) → point.at ≡ at → point.begun ≡ begun →
        is_barrier (lines_at (BarrierThen 0 NoLine) at) ≡ true → length begun ≡ loops_around at → point ≡ front
    by_place [] begun e f bar each = λ k. record { at = e k; begun = (f ∙ by_begun begun each) k }
    by_place (leg ∷ at) begun e f bar each = absurd (true≢false (sym bar ∙ ap is_barrier (no_line leg at)))

-- the items of the kernel and of the program, step by step
data Stage (launch : Launch) : Item → ProgramItem → Type 0 where
  before : (item : ℕ) → Stage launch (kernel_item item (LinesAt [] (BarrierThen 0 NoLine) NoTask))
      (program_item launch item (Run [] (Block (also (Barrier 0) empty)) ∷ []))
  passed : (item : ℕ) → Stage launch (kernel_item item (LinesAt (Behind ∷ []) NoLine NoTask))
      (program_item launch item [])
  ended : (item : ℕ) → Stage launch (kernel_item item NoTask) (program_item launch item [])

matches : (launch : Launch) (i : Item) (j : ProgramItem) → Stage launch i j
    → (k : ℕ) × (j' : ProgramItem) × GoesIn (program_next meeting launch) k j j' ×
    MatchesAt (program_machine meeting launch) (Stage launch) (option_map at_barrier (point_of i.tasks))
    (item_next meeting_lines launch i) j'
matches launch _ _ (before item) = (
  1,
  program_item launch item (Run (Nth 0 ∷ []) (Barrier 0) ∷ []),
  (_, refl, refl),
  (both_wait (passed item), λ w. refl),
)
matches launch _ _ (passed item) = (0, program_item launch item [], refl, ended item)
matches launch _ _ (ended item) = (0, program_item launch item [], refl, (both_end, λ w. absurd w))

-- an item of the program that has ended comes nowhere
never : (launch : Launch) (buffers : List (List ℕ)) (j : ProgramItem) (point : Option ProgramPoint) → j.tasks ≡ [] →
    ProgramCanCome meeting launch buffers j point → point ≡ None
never launch buffers j _ e arrived = ap first_point e
never launch buffers j point e (by_step {after = after} m c) =
    absurd (subst (λ ts. MayLead (IsWithin meeting launch buffers) (first_next meeting launch j ts) after) e m)
never launch buffers j point e (by_test t c) = absurd (true≢false (sym t.0 ∙ ap is_test e))

alike : (launch : Launch) (buffers : List (List ℕ)) (i : Item) (j : ProgramItem) → Stage launch i j →
    (k : ℕ) × (j' : ProgramItem) × GoesIn (program_next meeting launch) k j j' ×
    AreAlike meeting meeting_lines at_barrier launch buffers i j'
alike launch buffers _ _ (before item) = (
  1,
  program_item launch item (Run (Nth 0 ∷ []) (Barrier 0) ∷ []),
  (_, refl, refl),
  record {
    same_next = refl;
    waits = λ w point e. refl;
    parting = λ point b no come. no
        (subst (λ p. ItemCanCome meeting_lines launch (kernel_item item (LinesAt [] (BarrierThen 0 NoLine) NoTask))
        (Some p)) (sym (one_barrier point b)) arrived);
    reads_alike = λ v c h. absurd (no_cell v c h);
    reads_value = λ v c h. absurd (no_cell v c h);
    sets_alike = λ v c h. absurd (no_cell v c h);
    sets_value = λ v c h. absurd (no_cell v c h);
  },
)
alike launch buffers _ _ (passed item) = (
  0,
  program_item launch item [],
  refl,
  record {
    same_next = tt;
    waits = λ w. absurd w;
    parting = λ point b no come. none-some (at_barrier point)
        (sym (never launch buffers (program_item launch item []) (Some (at_barrier point)) refl come));
    reads_alike = λ v c h. absurd (no_cell v c h);
    reads_value = λ v c h. absurd (no_cell v c h);
    sets_alike = λ v c h. absurd (no_cell v c h);
    sets_value = λ v c h. absurd (no_cell v c h);
  },
)
alike launch buffers _ _ (ended item) = (
  0,
  program_item launch item [],
  refl,
  record {
    same_next = tt;
    waits = λ w. absurd w;
    parting = λ point b no come. none-some (at_barrier point)
        (sym (never launch buffers (program_item launch item []) (Some (at_barrier point)) refl come));
    reads_alike = λ v c h. absurd (no_cell v c h);
    reads_value = λ v c h. absurd (no_cell v c h);
    sets_alike = λ v c h. absurd (no_cell v c h);
    sets_value = λ v c h. absurd (no_cell v c h);
  },
)

has_steps : (launch : Launch) (buffers : List (List ℕ)) → HasSteps meeting meeting_lines at_barrier launch buffers
has_steps launch buffers = record {
  R = λ n i j. Stage launch i j;
  steps = record { same_group = λ item. refl; fewer = λ n i j r. r; matches = λ n i j r. matches launch i j r };
  alike = λ n i j r. alike launch buffers i j r;
  start = λ n item. before item;
}

parts : HasParts meeting meeting_lines
parts = record { parameters = refl; tables = refl; sites = refl }

pub meeting_is_lowered : MeetingIsLowered
meeting_is_lowered = record {
  cells = record {
    each = λ v h. absurd h;
    one = λ v c d h k. absurd (no_cell v c h);
    no_other = λ v c h. absurd (no_cell v c h);
  };
  arrays = refl;
  parts = parts;
  start = λ c. refl;
  cuts = record { crosses = λ at v c cut h. absurd (no_cell v c h); meet = λ at v w c d cut h. absurd (no_cell v c h) };
  evenness = λ launch fits buffers fit one other w w' g deeds deeds' i j h h' point e e' stop c steady.
      absurd (no_cell steady.variable c steady.cell);
  few_keeps = λ p. omega arith;
  matching = from_steps meeting meeting_lines valid refl refl parts at_barrier (λ launch fits sizes buffers fit.
      has_steps launch buffers);
  few_lines = record { loads = λ site. omega arith; stores = λ site. omega arith; barriers = λ site. omega arith };
}
