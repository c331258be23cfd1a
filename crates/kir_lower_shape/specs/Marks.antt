-- Where the program's item stands at each line of a lowered kernel: marks, one for each line, in the shape of the
-- lines.
use Rattle.std.specs.Prelude.{ℕ, List, [], ◌∷◌, ◌++◌}
use Rattle.std.specs.Prelude.{Bool as Test}
use Rattle.cl_model.specs.Task.{Leg, Turn, Point as ProgramPoint}
use Rattle.wg_num.specs.declared.types.IntType.{IntType}
use Rattle.cl_model.specs.declared.program.Root.{Root}
use Rattle.kir.specs.declared.line.Atom.{Atom}
use Rattle.kir.specs.Tree.{Work, Lines, NoLine, SetThen, LoadThen, StoreThen, ClearThen, IfThen, LoopThen, BarrierThen}
use Rattle.kir.specs.Places.{Behind, IntoChosen, IntoOther, IntoTest, ToAnswer, IntoBody, Place, Point, first_of}
use Rattle.kir.specs.Places.{others_of}

-- the way to a node of the program, where the iterations begun of the loops around it are given, the innermost first
abbrev pub Way : Type 0
Way = List ℕ → ProgramPoint

-- a node below another
abbrev pub further : Way → Leg → Way
further way leg begun = way begun ++ leg ∷ []

-- a node in a loop: the first number is that of the loop's own iterations
abbrev pub in_turn : Way → Leg → Way
in_turn way leg begun = way (others_of begun) ++ (Turn (first_of begun) ∷ leg ∷ [])

-- marks: none, or that of a line and those behind it; an if and a loop have two parts
pub data Marks : Type 0 where
  NoMark : Marks
  MarkThen : (way : Way) (rest : Marks) → Marks
  FormThen : (way : Way) (one two rest : Marks) → Marks

-- marks before other marks
abbrev pub marks_then : Marks → Marks → Marks
marks_then NoMark tail = tail
marks_then (MarkThen way rest) tail = MarkThen way (marks_then rest tail)
marks_then (FormThen way one two rest) tail = FormThen way one two (marks_then rest tail)

-- the same mark for all lines
abbrev pub all_marked : Way → Lines → Marks
all_marked way NoLine = NoMark
all_marked way (SetThen to work rest) = MarkThen way (all_marked way rest)
all_marked way (LoadThen site to element root index rest) = MarkThen way (all_marked way rest)
all_marked way (StoreThen site element root index from rest) = MarkThen way (all_marked way rest)
all_marked way (ClearThen array rest) = MarkThen way (all_marked way rest)
all_marked way (IfThen site test chosen other rest) =
    FormThen way (all_marked way chosen) (all_marked way other) (all_marked way rest)
all_marked way (LoopThen site test_first test answer body rest) =
    FormThen way (all_marked way test) (all_marked way body) (all_marked way rest)
all_marked way (BarrierThen site rest) = MarkThen way (all_marked way rest)

-- ---- the marks at a place

-- those behind the first, and those of its parts
abbrev pub marks_behind : Marks → Marks
marks_behind NoMark = NoMark
marks_behind (MarkThen way rest) = rest
marks_behind (FormThen way one two rest) = rest

-- of the first part
abbrev pub marks_one : Marks → Marks
marks_one NoMark = NoMark
marks_one (MarkThen way rest) = NoMark
marks_one (FormThen way one two rest) = one

-- of the second
abbrev pub marks_two : Marks → Marks
marks_two NoMark = NoMark
marks_two (MarkThen way rest) = NoMark
marks_two (FormThen way one two rest) = two

-- the marks from a place on
abbrev pub marks_at : Marks → Place → Marks
marks_at marks [] = marks
marks_at marks (Behind ∷ at) = marks_behind (marks_at marks at)
marks_at marks (IntoChosen ∷ at) = marks_one (marks_at marks at)
marks_at marks (IntoOther ∷ at) = marks_two (marks_at marks at)
marks_at marks (IntoTest ∷ at) = marks_one (marks_at marks at)
marks_at marks (ToAnswer ∷ at) = NoMark
marks_at marks (IntoBody ∷ at) = marks_two (marks_at marks at)

-- the way that the first says
abbrev pub first_way : Marks → Way
first_way NoMark begun = []
first_way (MarkThen way rest) begun = way begun
first_way (FormThen way one two rest) begun = way begun

-- the point of the program that a place and the iterations begun of the loops around it determine
abbrev pub point_marked : Marks → Point → ProgramPoint
point_marked marks point = first_way (marks_at marks point.at) point.begun

-- marks in the shape of lines
pub data Shaped : Lines → Marks → Type 0 where
  no_line : Shaped NoLine NoMark
  set_line : {to : ℕ} {work : Work} {rest : Lines} {way : Way} {marks : Marks} → Shaped rest marks →
      Shaped (SetThen to work rest) (MarkThen way marks)
  load_line : {site to : ℕ} {element : IntType} {root : Root} {index : Atom} {rest : Lines} {way : Way}
      {marks : Marks} → Shaped rest marks → Shaped (LoadThen site to element root index rest) (MarkThen way marks)
  store_line : {site : ℕ} {element : IntType} {root : Root} {index from : Atom} {rest : Lines} {way : Way}
      {marks : Marks} → Shaped rest marks → Shaped (StoreThen site element root index from rest) (MarkThen way marks)
  clear_line : {array : ℕ} {rest : Lines} {way : Way} {marks : Marks} → Shaped rest marks →
      Shaped (ClearThen array rest) (MarkThen way marks)
  if_line : {site : ℕ} {test : Atom} {chosen other rest : Lines} {way : Way} {one two marks : Marks} →
      Shaped chosen one → Shaped other two → Shaped rest marks →
      Shaped (IfThen site test chosen other rest) (FormThen way one two marks)
  loop_line : {site : ℕ} {test_first : Test} {answer : Atom} {test body rest : Lines} {way : Way}
      {one two marks : Marks} → Shaped test one → Shaped body two → Shaped rest marks →
      Shaped (LoopThen site test_first test answer body rest) (FormThen way one two marks)
  barrier_line : {site : ℕ} {rest : Lines} {way : Way} {marks : Marks} → Shaped rest marks →
      Shaped (BarrierThen site rest) (MarkThen way marks)
