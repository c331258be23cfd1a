-- An item of a kernel without the values that no line reads goes with the same item of the given one.
use Rattle.std.proofs.Common.{◌≡◌, ℕ, suc, ℤ, pos, List, [], ◌∷◌, map}
use Rattle.std.proofs.Common.{refl, sym, ap, ap₂, ◌∙◌, subst, true, false, if◌then◌else◌, eq-eqb, ne_eqb}
use Rattle.std.proofs.Common.{◌⊎◌, inl, inr}
use Rattle.std.proofs.Common.{Bool as Test}
use Rattle.std.specs.Prelude.{nat_eq, not, ◌&&◌, ◌||◌}
use Rattle.std.proofs.lemmas.Bool.{true≢false, cases_eq}
use Rattle.work_items.specs.Items.{Goes, Begins, Loads, Stores}
use Rattle.work_items.specs.Simulation.{GoesIn, SameLabel, both_end, both_wait, both_go, both_begin, both_load}
use Rattle.work_items.specs.Simulation.{both_store}
use Rattle.wg_num.specs.Operators.{unary_of, binary_of}
use Rattle.wg_num.specs.Builtins.{builtin_of}
use Rattle.wg_num.specs.Bytes.{bytes_of, value_of_bytes}
use Rattle.wg_num.specs.Wrap.{wrap_of}
use Rattle.cl_model.specs.Sizes.{Launch, answer_of}
use Rattle.cl_model.specs.Steps.{nth}
use Rattle.cl_model.specs.Values.{is_zero}
use Rattle.kir.specs.declared.line.Atom.{Atom}
use Rattle.kir.specs.declared.line.Atom.TheVariants.{Const, Cell as CellAtom}
use Rattle.kir.specs.Tree.{Work, Unary, Binary, Builtin, Convert, Ask, Argument, Copy, Lines, NoLine, SetThen}
use Rattle.kir.specs.Tree.{LoadThen, StoreThen, ClearThen, IfThen, LoopThen, BarrierThen, Kernel}
use Rattle.kir.specs.Places.{Leg, Behind, IntoChosen, IntoOther, IntoTest, ToAnswer, IntoBody, Place, Tasks, NoTask}
use Rattle.kir.specs.Places.{LinesAt, AnswerAt, iteration, lines_at, behind, chosen_of, other_of, test_of, body_of}
use Rattle.kir.specs.Steps.{Item, with_tasks, with_cell, atom_value, work_value, access_at, object_at, branched}
use Rattle.kir.specs.Steps.{line_next, tasks_next, item_next, answer_next}
use Rattle.kir.specs.Live.{reads, some_reads, work_reads}
use Rattle.kir_simplify.specs.Reading.{reads_in}
use Rattle.kir_simplify.specs.Simple.{is_value_cell, is_unread}
use Rattle.kir_simplify.specs.Passes.{swept, swept_of}

-- ---- what is computed depends on the cells that are read

-- the cells that are read are equal
abbrev AgreeOn : (ℕ → Test) → (ℕ → ℤ) → (ℕ → ℤ) → Type 0
AgreeOn read cells' cells = (c : ℕ) → read c ≡ true → cells' c ≡ cells c

pub or_first : (x y : Test) → x ≡ true → (x || y) ≡ true
or_first true y e = refl
or_first false y e = absurd (true≢false (sym e))

pub or_second : (x y : Test) → y ≡ true → (x || y) ≡ true
or_second true y e = refl
or_second false y e = e

atom_agrees : (cells' cells : ℕ → ℤ) (a : Atom) → AgreeOn (λ c. reads c a) cells' cells →
    atom_value cells' a ≡ atom_value cells a
atom_agrees cells' cells (Const value of) agree = refl
atom_agrees cells' cells (CellAtom d) agree = agree d (eq-eqb d d refl)

atoms_agree : (cells' cells : ℕ → ℤ) (args : List Atom) → AgreeOn (λ c. some_reads c args) cells' cells →
    map (atom_value cells') args ≡ map (atom_value cells) args
atoms_agree cells' cells [] agree = refl
atoms_agree cells' cells (a ∷ args) agree =
    ap₂ (λ x xs. x ∷ xs)
    (atom_agrees cells' cells a (λ c e. agree c (or_first (reads c a) (some_reads c args) e)))
    (atoms_agree cells' cells args (λ c e. agree c (or_second (reads c a) (some_reads c args) e)))

-- the item with other cells and something else left to do
abbrev pub with_both : Item → (ℕ → ℤ) → Tasks → Item
with_both i cells t = record { number = i.number; cells = cells; tasks = t }

work_agrees : (launch : Launch) (i : Item) (cells' : ℕ → ℤ) (t : Tasks) (work : Work) →
    AgreeOn (λ c. work_reads c work) cells' i.cells → work_value launch (with_both i cells' t) work ≡ work_value launch
    i work
work_agrees launch i cells' t (Unary op of a) agree = ap (unary_of op of) (atom_agrees cells' i.cells a agree)
work_agrees launch i cells' t (Binary op of a b) agree =
    ap₂ (binary_of op of)
    (atom_agrees cells' i.cells a (λ c e. agree c (or_first (reads c a) (reads c b) e)))
    (atom_agrees cells' i.cells b (λ c e. agree c (or_second (reads c a) (reads c b) e)))
work_agrees launch i cells' t (Builtin f of args) agree =
    ap (λ vs. builtin_of f of (nth vs 0) (nth vs 1) (nth vs 2)) (atoms_agree cells' i.cells args agree)
work_agrees launch i cells' t (Convert to a) agree = ap (wrap_of to) (atom_agrees cells' i.cells a agree)
work_agrees launch i cells' t (Ask what dim) agree =
    ap (answer_of launch i.number what) (atom_agrees cells' i.cells dim agree)
work_agrees launch i cells' t (Argument number) agree = refl
work_agrees launch i cells' t (Copy a) agree = atom_agrees cells' i.cells a agree

-- the cells with one set
abbrev pub updated : (ℕ → ℤ) → ℕ → ℤ → ℕ → ℤ
updated cells to v = λ c. if nat_eq to c then v else cells c

-- ---- places

-- the lines to which a leg leads
abbrev pub part : Leg → Lines → Lines
part Behind lines = behind lines
part IntoChosen lines = chosen_of lines
part IntoOther lines = other_of lines
part IntoTest lines = test_of lines
part ToAnswer lines = NoLine
part IntoBody lines = body_of lines

-- a place with the lines that stand there
pub record Spot : Type 0 where
  pub at : Place
  pub lines : Lines

abbrev pub spot : Place → Lines → Spot
spot at lines = record { at = at; lines = lines }

pub part_at : (text : Lines) (leg : Leg) (at : Place) → lines_at text (leg ∷ at) ≡ part leg (lines_at text at)
part_at text Behind at = refl
part_at text IntoChosen at = refl
part_at text IntoOther at = refl
part_at text IntoTest at = refl
part_at text ToAnswer at = refl
part_at text IntoBody at = refl

module _ (kernel : Kernel) where
  abbrev S : Lines → Lines
  S lines = swept (is_unread kernel) lines

  -- past the lines that are left out
  abbrev pub skip : Place → Lines → Spot
  skip at NoLine = spot at NoLine
  skip at (SetThen to work rest) =
      if is_unread kernel to then skip (Behind ∷ at) rest else spot at (SetThen to work rest)
  skip at (LoadThen site to element root index rest) = spot at (LoadThen site to element root index rest)
  skip at (StoreThen site element root index from rest) = spot at (StoreThen site element root index from rest)
  skip at (ClearThen array rest) = spot at (ClearThen array rest)
  skip at (IfThen site test chosen other rest) = spot at (IfThen site test chosen other rest)
  skip at (LoopThen site test_first test answer body rest) = spot at (LoopThen site test_first test answer body rest)
  skip at (BarrierThen site rest) = spot at (BarrierThen site rest)

  -- where the line stands for which the line at a place stands
  abbrev pub placed : Place → Spot
  placed [] = skip [] kernel.body
  placed (leg ∷ p) = skip (leg ∷ (placed p).at) (part leg (placed p).lines)

  -- what is computed of these lines reads cells that the kernel reads
  abbrev ReadsThere : Lines → Type 0
  ReadsThere lines = (c : ℕ) → reads_in c lines ≡ true → reads_in c kernel.body ≡ true

  -- a cell that the kernel reads is not left out
  not_unread : (c : ℕ) → reads_in c kernel.body ≡ true → is_unread kernel c ≡ false
  not_unread c e = by_kind (is_value_cell kernel c)
    where
      by_kind : (b : Test) → (b && not (reads_in c kernel.body)) ≡ false
      by_kind true = ap not e
      by_kind false = refl

  -- ---- what is left to do

  abbrev pub swept_tasks : Tasks → List Place → Tasks
  swept_tasks NoTask ps = NoTask
  swept_tasks (LinesAt at lines k) [] = NoTask
  swept_tasks (LinesAt at lines k) (p ∷ ps) = LinesAt p (swept (is_unread kernel) lines) (swept_tasks k ps)
  swept_tasks (AnswerAt at test answer body n k) [] = NoTask
  swept_tasks (AnswerAt at test answer body n k) (p ∷ ps) =
      AnswerAt p (swept (is_unread kernel) test) answer (swept (is_unread kernel) body) n (swept_tasks k ps)

  -- the parts of a loop under way
  pub record IsUnderWay (p at : Place) (test : Lines) (answer : Atom) (body : Lines) : Type 0 where
    pub there : (placed p).at ≡ at
    pub test_there : test_of (placed p).lines ≡ test
    pub body_there : body_of (placed p).lines ≡ body
    pub test_is : test ≡ lines_at kernel.body (IntoTest ∷ at)
    pub body_is : body ≡ lines_at kernel.body (IntoBody ∷ at)
    pub reads_test : (c : ℕ) → reads_in c test ≡ true → reads_in c kernel.body ≡ true
    pub reads_answer : (c : ℕ) → reads c answer ≡ true → reads_in c kernel.body ≡ true
    pub reads_body : (c : ℕ) → reads_in c body ≡ true → reads_in c kernel.body ≡ true

  pub record IsThere (p at : Place) (lines : Lines) : Type 0 where
    pub place : placed p ≡ skip at lines
    pub is : lines ≡ lines_at kernel.body at
    pub reads_there : (c : ℕ) → reads_in c lines ≡ true → reads_in c kernel.body ≡ true

  abbrev pub AreFine : Tasks → List Place → Type 0
  AreFine NoTask ps = Unit {0}
  AreFine (LinesAt at lines k) [] = ⊥
  AreFine (LinesAt at lines k) (p ∷ ps) = IsThere p at lines × AreFine k ps
  AreFine (AnswerAt at test answer body n k) [] = ⊥
  AreFine (AnswerAt at test answer body n k) (p ∷ ps) = IsUnderWay p at test answer body × AreFine k ps

  -- cells that are not left out are equal
  abbrev pub Agree : (ℕ → ℤ) → (ℕ → ℤ) → Type 0
  Agree cells' cells = (c : ℕ) → is_unread kernel c ≡ false → cells' c ≡ cells c

  pub record Beside (i' i : Item) : Type 0 where
    pub cells : ℕ → ℤ
    pub places : List Place
    pub same : i' ≡ with_both i cells (swept_tasks i.tasks places)
    pub agree : Agree cells i.cells
    pub fine : AreFine i.tasks places

  -- the place of the given text at which an item comes to one of the simple text, before it goes past lines left out
  abbrev pub front : Place → Place
  front [] = []
  front (leg ∷ p) = leg ∷ (placed p).at

  -- what is left to do stands there
  abbrev pub AreFronts : Tasks → List Place → Type 0
  AreFronts NoTask ps = Unit {0}
  AreFronts (LinesAt at lines k) [] = ⊥
  AreFronts (LinesAt at lines k) (p ∷ ps) = (at ≡ front p) × AreFronts k ps
  AreFronts (AnswerAt at test answer body n k) [] = ⊥
  AreFronts (AnswerAt at test answer body n k) (p ∷ ps) = AreFronts k ps

  -- the same of all but the first
  abbrev pub RestFronts : Tasks → List Place → Type 0
  RestFronts NoTask ps = Unit {0}
  RestFronts (LinesAt at lines k) [] = ⊥
  RestFronts (LinesAt at lines k) (p ∷ ps) = AreFronts k ps
  RestFronts (AnswerAt at test answer body n k) [] = ⊥
  RestFronts (AnswerAt at test answer body n k) (p ∷ ps) = AreFronts k ps

  pub record Fronted (i' i : Item) : Type 0 where
    pub beside : Beside i' i
    pub fronts : AreFronts i.tasks beside.places

  agree_set : (cells' cells : ℕ → ℤ) (to : ℕ) (v : ℤ) → Agree cells' cells →
      Agree (updated cells' to v) (updated cells to v)
  agree_set cells' cells to v agree c e = by_test (nat_eq to c)
    where
      by_test : (b : Test) → (if b then v else cells' c) ≡ (if b then v else cells c)
      by_test true = refl
      by_test false = agree c e

  -- a cell that is left out is set
  pub agree_left : (cells' cells : ℕ → ℤ) (to : ℕ) (v : ℤ) → is_unread kernel to ≡ true → Agree cells' cells →
      Agree cells' (updated cells to v)
  agree_left cells' cells to v left agree c e = by_case (cases_eq to c)
    where
      by_case : (to ≡ c) ⊎ (to ≡ c → ⊥) → cells' c ≡ updated cells to v c
      by_case (inl same) = absurd (true≢false (sym left ∙ (ap (is_unread kernel) same ∙ e)))
      by_case (inr differ) =
          agree c e ∙ sym (ap (λ (b : Test). if b then v else cells c) (ne_eqb to c differ))

  -- the first line is not left out
  abbrev pub IsKept : Lines → Type 0
  IsKept (SetThen to work rest) = is_unread kernel to ≡ false
  IsKept _ = Unit {0}

  abbrev pub IsReady : Tasks → Type 0
  IsReady (LinesAt at lines k) = IsKept lines
  IsReady _ = Unit {0}

  pub kept_skip : (at : Place) (lines : Lines) → IsKept lines → skip at lines ≡ spot at lines
  kept_skip at NoLine k = refl
  kept_skip at (SetThen to work rest) k =
      ap (λ (b : Test). if b then skip (Behind ∷ at) rest else spot at (SetThen to work rest)) k
  kept_skip at (LoadThen site to element root index rest) k = refl
  kept_skip at (StoreThen site element root index from rest) k = refl
  kept_skip at (ClearThen array rest) k = refl
  kept_skip at (IfThen site test chosen other rest) k = refl
  kept_skip at (LoopThen site test_first test answer body rest) k = refl
  kept_skip at (BarrierThen site rest) k = refl

  -- a leg further from a line that is kept
  leg_on : (p at : Place) (leg : Leg) (lines : Lines) → placed p ≡ skip at lines → IsKept lines →
      placed (leg ∷ p) ≡ skip (leg ∷ at) (part leg lines)
  leg_on p at leg lines e k =
      ap (λ (s : Spot). skip (leg ∷ s.at) (part leg s.lines)) (e ∙ kept_skip at lines k)

  front_leg : (p at : Place) (leg : Leg) (lines : Lines) → placed p ≡ skip at lines → IsKept lines →
      leg ∷ at ≡ leg ∷ (placed p).at
  front_leg p at leg lines e k = ap (λ (s : Spot). leg ∷ s.at) (sym (e ∙ kept_skip at lines k))

  there_on : (p at : Place) (leg : Leg) (lines : Lines) → IsThere p at lines → IsKept lines →
      ((c : ℕ) → reads_in c (part leg lines) ≡ true → reads_in c lines ≡ true) →
      IsThere (leg ∷ p) (leg ∷ at) (part leg lines)
  there_on p at leg lines h k less = record {
    place = leg_on p at leg lines h.place k;
    is = ap (part leg) h.is ∙ sym (part_at kernel.body leg at);
    reads_there = λ c e. h.reads_there c (less c e);
  }

  module _ (launch : Launch) where
    abbrev simple : Kernel
    simple = swept_of kernel

    -- ---- past the lines that are left out

    pub record Skipped (i' i : Item) : Type 0 where
      pub steps : ℕ
      pub item : Item
      pub goes : GoesIn (item_next kernel launch) steps i item
      pub beside : Beside i' item
      pub ready : IsReady item.tasks
      pub fronts : RestFronts item.tasks beside.places

    ready_now : (i' i : Item) → (b : Beside i' i) → IsReady i.tasks → RestFronts i.tasks b.places → Skipped i' i
    ready_now i' i b r fr = record { steps = 0; item = i; goes = refl; beside = b; ready = r; fronts = fr }

    after_one : (i' i mid : Item) → item_next kernel launch i ≡ Goes mid → Skipped i' mid → Skipped i' i
    after_one i' i mid e s = record {
      steps = suc s.steps;
      item = s.item;
      goes = (mid, e, s.goes);
      beside = s.beside;
      ready = s.ready;
      fronts = s.fronts;
    }

    -- a line that is left out, with what is behind it
    pub left_out : (i' : Item) (number : ℕ) (cells cells' : ℕ → ℤ) (at : Place) (to : ℕ) (work : Work) (rest : Lines)
        (k : Tasks) (p : Place) (ps : List Place) → is_unread kernel to ≡ true →
        IsThere p at (SetThen to work rest) → IsThere p (Behind ∷ at) rest
    left_out i' number cells cells' at to work rest k p ps left h = record {
      place = h.place ∙
          ap (λ (b : Test). if b then skip (Behind ∷ at) rest else spot at (SetThen to work rest)) left;
      is = ap behind h.is;
      reads_there = λ c e. h.reads_there c (or_second (work_reads c work) (reads_in c rest) e);
    }

    skip_set : (i' : Item) (number : ℕ) (cells cells' : ℕ → ℤ) (at : Place) (to : ℕ) (work : Work) (rest : Lines)
        (k : Tasks) (p : Place) (ps : List Place) → Agree cells' cells → IsThere p at (SetThen to work rest) →
        AreFine k ps → AreFronts k ps
        → ((cells : ℕ → ℤ) → i' ≡ record {
          number = number;
          cells = cells';
          tasks =
              LinesAt p (S rest) (swept_tasks k ps);
        } →
        Agree cells' cells → IsThere p (Behind ∷ at) rest → Skipped i'
        (record { number = number; cells = cells; tasks = LinesAt (Behind ∷ at) rest k }))
        → (b : Test) → is_unread kernel to ≡ b →
        i' ≡ record {
          number = number;
          cells = cells';
          tasks = LinesAt p (if b then S rest else SetThen to work (S rest)) (swept_tasks k ps);
        }
        → Skipped i' (record { number = number; cells = cells; tasks = LinesAt at (SetThen to work rest) k })
    skip_set i' number cells cells' at to work rest k p ps agree h f fr on true left same =
        after_one i' _ (record {
          number = number;
          cells = updated cells to (work_value launch (record {
            number = number;
            cells = cells;
            tasks =
                LinesAt at (SetThen to work rest) k;
          }) work);
          tasks = LinesAt (Behind ∷ at) rest k;
        }) refl
        (on (updated cells to (work_value launch (record {
          number = number;
          cells = cells;
          tasks =
              LinesAt at (SetThen to work rest) k;
        }) work)) same
        (agree_left cells' cells to (work_value launch (record {
          number = number;
          cells = cells;
          tasks =
              LinesAt at (SetThen to work rest) k;
        }) work) left agree)
        (left_out i' number cells cells' at to work rest k p ps left h))
    skip_set i' number cells cells' at to work rest k p ps agree h f fr on false left same =
        ready_now i' _ (record {
          cells = cells';
          places = p ∷ ps;
          same = same ∙ ap (λ (b : Test). record {
            number = number;
            cells = cells';
            tasks = LinesAt p (if b then S rest else SetThen to work (S rest)) (swept_tasks k ps);
          }) (sym left);
          agree = agree;
          fine = (h, f);
        }) left fr

    skip_lines : (i' : Item) (number : ℕ) (cells cells' : ℕ → ℤ) (at : Place) (lines : Lines) (k : Tasks) (p : Place)
        (ps : List Place) →
        i' ≡ record { number = number; cells = cells'; tasks = LinesAt p (S lines) (swept_tasks k ps) } →
        Agree cells' cells → IsThere p at lines → AreFine k ps → AreFronts k ps
        → Skipped i' (record { number = number; cells = cells; tasks = LinesAt at lines k })
    skip_lines i' number cells cells' at (SetThen to work rest) k p ps same agree h f fr =
        skip_set i' number cells cells' at to work rest k p ps agree h f fr
        (λ cells same agree h. skip_lines i' number cells cells' (Behind ∷ at) rest k p ps same agree h f fr)
        (is_unread kernel to) refl same
    skip_lines i' number cells cells' at NoLine k p ps same agree h f fr =
        ready_now i' _ (record { cells = cells'; places = p ∷ ps; same = same; agree = agree; fine = (h, f) }) tt fr
    skip_lines i' number cells cells' at (LoadThen site to element root index rest) k p ps same agree h f fr =
        ready_now i' _ (record { cells = cells'; places = p ∷ ps; same = same; agree = agree; fine = (h, f) }) tt fr
    skip_lines i' number cells cells' at (StoreThen site element root index from rest) k p ps same agree h f fr =
        ready_now i' _ (record { cells = cells'; places = p ∷ ps; same = same; agree = agree; fine = (h, f) }) tt fr
    skip_lines i' number cells cells' at (ClearThen array rest) k p ps same agree h f fr =
        ready_now i' _ (record { cells = cells'; places = p ∷ ps; same = same; agree = agree; fine = (h, f) }) tt fr
    skip_lines i' number cells cells' at (IfThen site test chosen other rest) k p ps same agree h f fr =
        ready_now i' _ (record { cells = cells'; places = p ∷ ps; same = same; agree = agree; fine = (h, f) }) tt fr
    skip_lines i' number cells cells' at (LoopThen site test_first test answer body rest) k p ps same agree h f fr =
        ready_now i' _ (record { cells = cells'; places = p ∷ ps; same = same; agree = agree; fine = (h, f) }) tt fr
    skip_lines i' number cells cells' at (BarrierThen site rest) k p ps same agree h f fr =
        ready_now i' _ (record { cells = cells'; places = p ∷ ps; same = same; agree = agree; fine = (h, f) }) tt fr

    skip_tasks : (i' : Item) (number : ℕ) (cells cells' : ℕ → ℤ) (t : Tasks) (ps : List Place) →
        i' ≡ record { number = number; cells = cells'; tasks = swept_tasks t ps } → Agree cells' cells → AreFine t ps →
        RestFronts t ps
        → Skipped i' (record { number = number; cells = cells; tasks = t })
    skip_tasks i' number cells cells' NoTask ps same agree f fr =
        ready_now i' _ (record { cells = cells'; places = ps; same = same; agree = agree; fine = f }) tt tt
    skip_tasks i' number cells cells' (LinesAt at lines k) [] same agree f fr = absurd f
    skip_tasks i' number cells cells' (LinesAt at lines k) (p ∷ ps) same agree f fr =
        skip_lines i' number cells cells' at lines k p ps same agree f.0 f.1 fr
    skip_tasks i' number cells cells' (AnswerAt at test answer body n k) [] same agree f fr = absurd f
    skip_tasks i' number cells cells' (AnswerAt at test answer body n k) (p ∷ ps) same agree f fr =
        ready_now i' _ (record { cells = cells'; places = p ∷ ps; same = same; agree = agree; fine = f }) tt fr

    pub rest_fronts : (t : Tasks) (ps : List Place) → AreFronts t ps → RestFronts t ps
    rest_fronts NoTask ps fr = tt
    rest_fronts (LinesAt at lines k) [] fr = fr
    rest_fronts (LinesAt at lines k) (p ∷ ps) fr = fr.1
    rest_fronts (AnswerAt at test answer body n k) [] fr = fr
    rest_fronts (AnswerAt at test answer body n k) (p ∷ ps) fr = fr

    -- an item goes on to a line that is kept
    pub skipped : (i' i : Item) → Fronted i' i → Skipped i' i
    skipped i' i b = skip_tasks i' i.number i.cells b.beside.cells i.tasks b.beside.places b.beside.same b.beside.agree
        b.beside.fine (rest_fronts i.tasks b.beside.places b.fronts)

    -- ---- steps of lines that are kept

    under_way : (p at : Place) (site : ℕ) (first : Test) (test : Lines) (answer : Atom) (body rest : Lines) →
        IsThere p at (LoopThen site first test answer body rest) → IsUnderWay p at test answer body
    under_way p at site first test answer body rest h = record {
      there = ap (λ (s : Spot). s.at) h.place;
      test_there = ap (λ (s : Spot). test_of s.lines) h.place;
      body_there = ap (λ (s : Spot). body_of s.lines) h.place;
      test_is = ap test_of h.is;
      body_is = ap body_of h.is;
      reads_test = λ c e. h.reads_there c (or_first (reads_in c test) _ e);
      reads_answer = λ c e. h.reads_there c (or_second (reads_in c test) _ (or_first (reads c answer) _ e));
      reads_body = λ c e. h.reads_there c (or_second (reads_in c test) _ (or_second (reads c answer) _
          (or_first (reads_in c body) (reads_in c rest) e)));
    }

    test_there : (p at : Place) (test : Lines) (answer : Atom) (body : Lines) → IsUnderWay p at test answer body →
        IsThere (IntoTest ∷ p) (IntoTest ∷ at) test
    test_there p at test answer body u = record {
      place = ap₂ (λ x y. skip (IntoTest ∷ x) y) u.there u.test_there;
      is = u.test_is;
      reads_there = u.reads_test;
    }

    body_there : (p at : Place) (test : Lines) (answer : Atom) (body : Lines) → IsUnderWay p at test answer body →
        IsThere (IntoBody ∷ p) (IntoBody ∷ at) body
    body_there p at test answer body u = record {
      place = ap₂ (λ x y. skip (IntoBody ∷ x) y) u.there u.body_there;
      is = u.body_is;
      reads_there = u.reads_body;
    }

    -- the cells of an atom that is read are equal
    atom_there : (cells' cells : ℕ → ℤ) (a : Atom) → Agree cells' cells →
        ((c : ℕ) → reads c a ≡ true → reads_in c kernel.body ≡ true) → atom_value cells' a ≡ atom_value cells a
    atom_there cells' cells a agree there = atom_agrees cells' cells a (λ c e. agree c (not_unread c (there c e)))

    pub branch_beside : (i : Item) (cells' : ℕ → ℤ) (t : Tasks) (p at : Place) (site : ℕ) (test : Atom)
        (chosen other rest : Lines) (k : Tasks) (ps : List Place) → Agree cells' i.cells →
        IsThere p at (IfThen site test chosen other rest) → AreFine k ps → AreFronts k ps → (b : Test)
        → Fronted (with_tasks (with_both i cells' t) (if b
        then LinesAt (IntoOther ∷ p) (S other) (LinesAt (Behind ∷ p) (S rest) (swept_tasks k ps))
        else LinesAt (IntoChosen ∷ p) (S chosen) (LinesAt (Behind ∷ p) (S rest) (swept_tasks k ps))))
        (with_tasks i (if b then LinesAt (IntoOther ∷ at) other (LinesAt (Behind ∷ at) rest k)
        else LinesAt (IntoChosen ∷ at) chosen (LinesAt (Behind ∷ at) rest k)))
    branch_beside i cells' t p at site test chosen other rest k ps agree h f fr true = record {
      beside = record {
        cells = cells';
        places = (IntoOther ∷ p) ∷ ((Behind ∷ p) ∷ ps);
        same = refl;
        agree = agree;
        fine = (
          there_on p at IntoOther (IfThen site test chosen other rest) h tt
              (λ c e. or_second (reads c test) _ (or_second (reads_in c chosen) _ (or_first (reads_in c other) _ e))),
          (
            there_on p at Behind (IfThen site test chosen other rest) h tt
                (λ c e. or_second (reads c test) _ (or_second (reads_in c chosen) _
                (or_second (reads_in c other) _ e))),
            f,
          ),
        );
      };
      fronts = (
        front_leg p at IntoOther (IfThen site test chosen other rest) h.place tt,
        (front_leg p at Behind (IfThen site test chosen other rest) h.place tt, fr),
      );
    }
    branch_beside i cells' t p at site test chosen other rest k ps agree h f fr false = record {
      beside = record {
        cells = cells';
        places = (IntoChosen ∷ p) ∷ ((Behind ∷ p) ∷ ps);
        same = refl;
        agree = agree;
        fine = (
          there_on p at IntoChosen (IfThen site test chosen other rest) h tt
              (λ c e. or_second (reads c test) _ (or_first (reads_in c chosen) _ e)),
          (
            there_on p at Behind (IfThen site test chosen other rest) h tt
                (λ c e. or_second (reads c test) _ (or_second (reads_in c chosen) _
                (or_second (reads_in c other) _ e))),
            f,
          ),
        );
      };
      fronts = (
        front_leg p at IntoChosen (IfThen site test chosen other rest) h.place tt,
        (front_leg p at Behind (IfThen site test chosen other rest) h.place tt, fr),
      );
    }

    label_line : (i : Item) (cells' : ℕ → ℤ) (t : Tasks) (p at : Place) (lines : Lines) (k : Tasks) (ps : List Place) →
        Agree cells' i.cells → IsThere p at lines → AreFine k ps → AreFronts k ps → IsKept lines
        → SameLabel Fronted (line_next simple launch (with_both i cells' t) p (S lines) (swept_tasks k ps))
        (line_next kernel launch i at lines k)
    label_line i cells' t p at NoLine k ps agree h f fr kept =
        both_go (record {
          beside = record { cells = cells'; places = ps; same = refl; agree = agree; fine = f };
          fronts = fr;
        })
    label_line i cells' t p at (SetThen to work rest) k ps agree h f fr kept =
        subst (λ (b : Test). SameLabel Fronted (line_next simple launch (with_both i cells' t) p
        (if b then S rest else SetThen to work (S rest)) (swept_tasks k ps))
        (line_next kernel launch i at (SetThen to work rest) k)) (sym kept)
        (both_go (record {
          beside = record {
            cells = updated cells' to (work_value launch i work);
            places = (Behind ∷ p) ∷ ps;
            same = ap (λ (z : ℤ). record {
              number = i.number;
              cells = λ c. if nat_eq to c then z else cells' c;
              tasks = LinesAt (Behind ∷ p) (S rest) (swept_tasks k ps);
            }) (work_agrees launch i cells' t work (λ c e. agree c (not_unread c (h.reads_there c
                (or_first (work_reads c work) (reads_in c rest) e)))));
            agree = agree_set cells' i.cells to (work_value launch i work) agree;
            fine = (
              there_on p at Behind (SetThen to work rest) h kept (λ c e. or_second (work_reads c work) _ e),
              f,
            );
          };
          fronts = (front_leg p at Behind (SetThen to work rest) h.place kept, fr);
        }))
    label_line i cells' t p at (LoadThen site to element root index rest) k ps agree h f fr kept =
        subst (λ (z : ℤ). SameLabel Fronted
        (Loads site (access_at simple launch (with_both i cells' t) element root z)
        (λ bytes. with_cell (with_both i cells' t) (LinesAt (Behind ∷ p) (S rest) (swept_tasks k ps)) to
        (value_of_bytes element bytes)))
        (line_next kernel launch i at (LoadThen site to element root index rest) k))
        (sym (atom_there cells' i.cells index agree (λ c e. h.reads_there c (or_first (reads c index) _ e))))
        (both_load (λ bytes. record {
          beside = record {
            cells = updated cells' to (value_of_bytes element bytes);
            places = (Behind ∷ p) ∷ ps;
            same = refl;
            agree = agree_set cells' i.cells to (value_of_bytes element bytes) agree;
            fine = (
              there_on p at Behind (LoadThen site to element root index rest) h tt
                  (λ c e. or_second (reads c index) _ e),
              f,
            );
          };
          fronts = (front_leg p at Behind (LoadThen site to element root index rest) h.place tt, fr);
        }))
    label_line i cells' t p at (StoreThen site element root index from rest) k ps agree h f fr kept =
        subst (λ (z : ℤ). SameLabel Fronted
        (Stores site (object_at simple launch (with_both i cells' t) root) z
        (bytes_of element (atom_value cells' from))
        (with_tasks (with_both i cells' t) (LinesAt (Behind ∷ p) (S rest) (swept_tasks k ps))))
        (line_next kernel launch i at (StoreThen site element root index from rest) k))
        (sym (atom_there cells' i.cells index agree (λ c e. h.reads_there c (or_first _ _
        (or_first (reads c index) (reads c from) e)))))
        (subst (λ (z : ℤ). SameLabel Fronted
        (Stores site (object_at simple launch (with_both i cells' t) root) (atom_value i.cells index)
        (bytes_of element z)
        (with_tasks (with_both i cells' t) (LinesAt (Behind ∷ p) (S rest) (swept_tasks k ps))))
        (line_next kernel launch i at (StoreThen site element root index from rest) k))
        (sym (atom_there cells' i.cells from agree (λ c e. h.reads_there c (or_first _ _
        (or_second (reads c index) (reads c from) e)))))
        (both_store (record {
          beside = record {
            cells = cells';
            places = (Behind ∷ p) ∷ ps;
            same = refl;
            agree = agree;
            fine = (
              there_on p at Behind (StoreThen site element root index from rest) h tt
                  (λ c e. or_second (reads c index || reads c from) _ e),
              f,
            );
          };
          fronts = (front_leg p at Behind (StoreThen site element root index from rest) h.place tt, fr);
        })))
    label_line i cells' t p at (ClearThen array rest) k ps agree h f fr kept =
        both_store (record {
          beside = record {
            cells = cells';
            places = (Behind ∷ p) ∷ ps;
            same = refl;
            agree = agree;
            fine = (there_on p at Behind (ClearThen array rest) h tt (λ c e. e), f);
          };
          fronts = (front_leg p at Behind (ClearThen array rest) h.place tt, fr);
        })
    label_line i cells' t p at (IfThen site test chosen other rest) k ps agree h f fr kept =
        both_go (subst (λ (z : ℤ). Fronted (with_tasks (with_both i cells' t)
        (branched z p (S chosen) (S other) (S rest) (swept_tasks k ps)))
        (with_tasks i (branched (atom_value i.cells test) at chosen other rest k)))
        (sym (atom_there cells' i.cells test agree (λ c e. h.reads_there c (or_first (reads c test) _ e))))
        (branch_beside i cells' t p at site test chosen other rest k ps agree h f fr
        (is_zero (atom_value i.cells test))))
    label_line i cells' t p at (LoopThen site true test answer body rest) k ps agree h f fr kept =
        both_go (record {
          beside = record {
            cells = cells';
            places = (IntoTest ∷ p) ∷ (p ∷ ((Behind ∷ p) ∷ ps));
            same = refl;
            agree = agree;
            fine = (
              test_there p at test answer body (under_way p at site true test answer body rest h),
              (
                under_way p at site true test answer body rest h,
                (
                  there_on p at Behind (LoopThen site true test answer body rest) h tt
                      (λ c e. or_second (reads_in c test) _ (or_second (reads c answer) _
                      (or_second (reads_in c body) _ e))),
                  f,
                ),
              ),
            );
          };
          fronts = (
            front_leg p at IntoTest (LoopThen site true test answer body rest) h.place tt,
            (front_leg p at Behind (LoopThen site true test answer body rest) h.place tt, fr),
          );
        })
    label_line i cells' t p at (LoopThen site false test answer body rest) k ps agree h f fr kept =
        both_begin (record {
          beside = record {
            cells = cells';
            places = (IntoBody ∷ p) ∷ ((IntoTest ∷ p) ∷ (p ∷ ((Behind ∷ p) ∷ ps)));
            same = refl;
            agree = agree;
            fine = (
              body_there p at test answer body (under_way p at site false test answer body rest h),
              (
                test_there p at test answer body (under_way p at site false test answer body rest h),
                (
                  under_way p at site false test answer body rest h,
                  (
                    there_on p at Behind (LoopThen site false test answer body rest) h tt
                        (λ c e. or_second (reads_in c test) _ (or_second (reads c answer) _
                        (or_second (reads_in c body) _ e))),
                    f,
                  ),
                ),
              ),
            );
          };
          fronts = (
            front_leg p at IntoBody (LoopThen site false test answer body rest) h.place tt,
            (
              front_leg p at IntoTest (LoopThen site false test answer body rest) h.place tt,
              (front_leg p at Behind (LoopThen site false test answer body rest) h.place tt, fr),
            ),
          );
        })
    label_line i cells' t p at (BarrierThen site rest) k ps agree h f fr kept =
        both_wait (record {
          beside = record {
            cells = cells';
            places = (Behind ∷ p) ∷ ps;
            same = refl;
            agree = agree;
            fine = (there_on p at Behind (BarrierThen site rest) h tt (λ c e. e), f);
          };
          fronts = (front_leg p at Behind (BarrierThen site rest) h.place tt, fr);
        })

    pub answered_beside : (i : Item) (cells' : ℕ → ℤ) (t : Tasks) (p at : Place) (test : Lines) (answer : Atom)
        (body : Lines) (n : ℕ) (k : Tasks) (ps : List Place) → Agree cells' i.cells →
        IsUnderWay p at test answer body → AreFine k ps → AreFronts k ps → (b : Test)
        → Fronted (with_tasks (with_both i cells' t)
        (if b then swept_tasks k ps else iteration p (S test) answer (S body) (suc n) (swept_tasks k ps)))
        (with_tasks i (if b then k else iteration at test answer body (suc n) k))
    answered_beside i cells' t p at test answer body n k ps agree u f fr true =
        record { beside = record { cells = cells'; places = ps; same = refl; agree = agree; fine = f }; fronts = fr }
    answered_beside i cells' t p at test answer body n k ps agree u f fr false = record {
      beside = record {
        cells = cells';
        places = (IntoBody ∷ p) ∷ ((IntoTest ∷ p) ∷ (p ∷ ps));
        same = refl;
        agree = agree;
        fine = (body_there p at test answer body u, (test_there p at test answer body u, (u, f)));
      };
      fronts = (ap (λ (x : Place). IntoBody ∷ x) (sym u.there), (ap (λ (x : Place). IntoTest ∷ x) (sym u.there), fr));
    }

    answer_label : (i : Item) (cells' : ℕ → ℤ) (t : Tasks) (p at : Place) (test : Lines) (answer : Atom) (body : Lines)
        (n : ℕ) (k : Tasks) (ps : List Place) → Agree cells' i.cells → IsUnderWay p at test answer body → AreFine k ps →
        AreFronts k ps
        → (b : Test) → SameLabel Fronted
        (if b then Goes (with_tasks (with_both i cells' t) (swept_tasks k ps)) else Begins
        (with_tasks (with_both i cells' t) (iteration p (S test) answer (S body) (suc n) (swept_tasks k ps))))
        (if b then Goes (with_tasks i k) else Begins (with_tasks i (iteration at test answer body (suc n) k)))
    answer_label i cells' t p at test answer body n k ps agree u f fr true =
        both_go (answered_beside i cells' t p at test answer body n k ps agree u f fr true)
    answer_label i cells' t p at test answer body n k ps agree u f fr false =
        both_begin (answered_beside i cells' t p at test answer body n k ps agree u f fr false)

    label_tasks : (i : Item) (cells' : ℕ → ℤ) (t k : Tasks) (ps : List Place) → Agree cells' i.cells → AreFine k ps →
        RestFronts k ps → IsReady k → SameLabel Fronted (tasks_next simple launch (with_both i cells' t)
        (swept_tasks k ps))
        (tasks_next kernel launch i k)
    label_tasks i cells' t NoTask ps agree f fr ready = both_end
    label_tasks i cells' t (LinesAt at lines k) [] agree f fr ready = absurd f
    label_tasks i cells' t (LinesAt at lines k) (p ∷ ps) agree f fr ready =
        label_line i cells' t p at lines k ps agree f.0 f.1 fr ready
    label_tasks i cells' t (AnswerAt at test answer body n k) [] agree f fr ready = absurd f
    label_tasks i cells' t (AnswerAt at test answer body n k) (p ∷ ps) agree f fr ready =
        subst (λ (z : ℤ). SameLabel Fronted
        (answer_next (with_both i cells' t) z p (S test) answer (S body) n (swept_tasks k ps))
        (answer_next i (atom_value i.cells answer) at test answer body n k))
        (sym (atom_there cells' i.cells answer agree f.0.reads_answer))
        (answer_label i cells' t p at test answer body n k ps agree f.0 f.1 fr (is_zero (atom_value i.cells answer)))

    -- both do the same, and stay beside each other
    pub labels : (i' i : Item) → (b : Beside i' i) → RestFronts i.tasks b.places → IsReady i.tasks →
        SameLabel Fronted (item_next simple launch i') (item_next kernel launch i)
    labels i' i b fr ready =
        subst (λ x. SameLabel Fronted (item_next simple launch x) (item_next kernel launch i)) (sym b.same)
        (label_tasks i b.cells (swept_tasks i.tasks b.places) i.tasks b.places b.agree b.fine fr ready)

  -- both start beside each other
  pub start_beside : (number : ℕ) → Fronted
      (record { number = number; cells = λ c. pos 0; tasks = LinesAt [] (swept_of kernel).body NoTask })
      (record { number = number; cells = λ c. pos 0; tasks = LinesAt [] kernel.body NoTask })
  start_beside number = record {
    beside = record {
      cells = λ c. pos 0;
      places = [] ∷ [];
      same = refl;
      agree = λ c e. refl;
      fine = (record { place = refl; is = refl; reads_there = λ c e. e }, tt);
    };
    fronts = (refl, tt);
  }

  -- ---- places

  -- behind the first line, where it is kept
  abbrev pub past_kept : Lines → Place → Place
  past_kept (SetThen to work rest) p = if is_unread kernel to then p else Behind ∷ p
  past_kept _ p = Behind ∷ p

  -- the place in the simple text of a place of the given one
  abbrev pub back : Place → Place
  back [] = []
  back (Behind ∷ at) = past_kept (lines_at kernel.body at) (back at)
  back (IntoChosen ∷ at) = IntoChosen ∷ back at
  back (IntoOther ∷ at) = IntoOther ∷ back at
  back (IntoTest ∷ at) = IntoTest ∷ back at
  back (ToAnswer ∷ at) = ToAnswer ∷ back at
  back (IntoBody ∷ at) = IntoBody ∷ back at
