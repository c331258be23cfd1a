-- The listing of a group program: the kernel's name and the width, then what a group does, one line each, indented by
-- two blanks per depth.
use Rattle.std.specs.Prelude.{ℕ, suc, ◌++◌, List, [], ◌∷◌, codes, decimal}
use Rattle.std.specs.Prelude.{Bool as Test, true, false}
use Rattle.lane_code.specs.declared.step.Step.{Step}
use Rattle.lane_code.specs.Text.{step_text}
use Rattle.lane_code.specs.declared.code.Node.{Node}
use Rattle.lane_code.specs.Program.{work_of, PlainCode, Work, Items, Seq, Vote, Loop, Works, idle, then_work, Plain}

abbrev pub deeper : List ℕ → List ℕ
deeper indent = indent ++ codes "  "

abbrev pub line_text : (indent text : List ℕ) → List ℕ
line_text indent text = indent ++ (text ++ codes "\n")

-- a step with its number
abbrev pub step_line : (indent : List ℕ) → ℕ → Step → List ℕ
step_line indent n step = indent ++ (decimal n ++ (codes " " ++ (step_text step ++ codes "\n")))

-- steps, the first of which has the number n
abbrev pub steps_text : (indent : List ℕ) → ℕ → List Step → List ℕ
steps_text indent n [] = []
steps_text indent n (step ∷ steps) = step_line indent n step ++ steps_text indent (suc n) steps

abbrev pub code_text : (indent : List ℕ) → PlainCode → List ℕ
code_text indent code = steps_text indent 0 code.steps

abbrev pub loop_name : Test → List ℕ
loop_name true = codes "loop"
loop_name false = codes "loop after"

-- a named code, one depth further in
abbrev pub part_text : (indent word : List ℕ) → PlainCode → List ℕ
part_text indent word code = line_text indent word ++ code_text (deeper indent) code

-- a named text
abbrev pub named_text : (indent word text : List ℕ) → List ℕ
named_text indent word text = line_text indent word ++ text

abbrev mutual
  pub work_text : (indent : List ℕ) → Work → List ℕ
  work_text indent (Items code) = part_text indent (codes "items") code
  work_text indent (Seq works) = line_text indent (codes "seq") ++ works_text (deeper indent) works
  work_text indent (Vote test agreed refused mixed) =
      line_text indent (codes "vote") ++ (part_text (deeper indent) (codes "test") test ++
      (named_text (deeper indent) (codes "yes") (work_text (deeper (deeper indent)) agreed)
      ++ (named_text (deeper indent) (codes "no") (work_text (deeper (deeper indent)) refused) ++
      part_text (deeper indent) (codes "mixed") mixed)))
  work_text indent (Loop test_first test body rest) =
      line_text indent (loop_name test_first) ++
      (named_text (deeper indent) (codes "test") (work_text (deeper (deeper indent)) test) ++
      (named_text (deeper indent) (codes "body") (work_text (deeper (deeper indent)) body)
      ++ part_text (deeper indent) (codes "rest") rest))

  pub works_text : (indent : List ℕ) → Works → List ℕ
  works_text indent idle = []
  works_text indent (then_work first others) = work_text indent first ++ works_text indent others

-- the text of a Vec of nodes
abbrev pub nodes_text : (indent : List ℕ) → List Node → List ℕ
nodes_text indent [] = []
nodes_text indent (n ∷ nodes) = work_text indent (work_of n) ++ nodes_text indent nodes

abbrev pub listing_text : (kernel : List ℕ) → Plain → List ℕ
listing_text kernel p =
    codes "kernel " ++ (kernel ++ (codes ", width " ++ (decimal p.width ++ (codes "\n" ++ work_text [] p.top))))
