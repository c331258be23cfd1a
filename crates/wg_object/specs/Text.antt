-- The text of an object: its bytes.
use Rattle.std.specs.Prelude.{ℕ, List, [], ◌∷◌, ◌++◌, length, Option, Some, None, codes, suc}
use Rattle.std.specs.Int.{w32, w64, to_le_bytes}
use Rattle.wg_num.specs.declared.types.Place.{Place}
use Rattle.wg_num.specs.Wrap.{bits_of}
use Rattle.cl_model.specs.declared.program.VarKind.{VarKind}
use Rattle.cl_model.specs.declared.program.VarKind.TheVariants.{Scalar as ScalarKind, Pointer}
use Rattle.cl_model.specs.declared.program.Root.{Root}
use Rattle.lane_code.specs.declared.step.Reg.{Reg}
use Rattle.lane_code.specs.declared.step.Step.{Step}
use Rattle.lane_code.specs.declared.step.Step.TheVariants.{Const, Copy, Unary, Binary, Builtin, Convert, Spread}
use Rattle.lane_code.specs.declared.step.Step.TheVariants.{First, Ask, Argument, Load, Store, Clear, ColumnGet}
use Rattle.lane_code.specs.declared.step.Step.TheVariants.{ColumnPut, OnceGet, OncePut, VoteGet, VotePut}
use Rattle.lane_code.specs.declared.step.Step.TheVariants.{Test as TestStep, MaskAnd, MaskOr, MaskLess, Jump}
use Rattle.lane_code.specs.declared.step.Step.TheVariants.{SkipNone, SkipZero, Turn, Mark}
use Rattle.lane_code.specs.declared.code.Counts.{Counts}
use Rattle.lane_code.specs.declared.operand.Operand.{Operand}
use Rattle.lane_code.specs.declared.operand.Operand.TheVariants as operand
use Rattle.lane_code.specs.declared.operand.Operand.TheVariants.{Register}
use Rattle.lane_code.specs.Rows.{row_of}
use Rattle.lane_code.specs.Program.{PlainCode, Work, Items, Seq, Vote, Loop, Works, idle, then_work}
use Rattle.wg_object.specs.Numbers.{number_of_truth, number_of_type, number_of_unary, number_of_binary}
use Rattle.wg_object.specs.Numbers.{number_of_function, number_of_query, number_of_width, number_of_space}
use Rattle.wg_object.specs.Numbers.{number_of_bank, number_of_root, index_of_root}
use Rattle.wg_object.specs.Plain.{PlainTable, PlainObject}

-- ---- numbers and lists

-- a number of 32 bits, and one of 64, lowest byte first
unfoldable pub four : ℕ → List ℕ
four n = to_le_bytes w32 n

unfoldable pub eight : ℕ → List ℕ
eight n = to_le_bytes w64 n

-- bytes behind their count
abbrev pub word_text : List ℕ → List ℕ
word_text bytes = eight (length bytes) ++ bytes

-- texts one behind the other
abbrev pub flat_texts : {X : Type 0} → (X → List ℕ) → List X → List ℕ
flat_texts text [] = []
flat_texts text (x ∷ xs) = text x ++ flat_texts text xs

-- a list: its count, and its items
abbrev pub list_text : {X : Type 0} → (X → List ℕ) → List X → List ℕ
list_text text xs = eight (length xs) ++ flat_texts text xs

-- ---- steps

abbrev pub reg_text : Reg → List ℕ
reg_text x = number_of_bank x.bank ∷ four x.number

abbrev pub root_text : Root → List ℕ
root_text r = number_of_root r ∷ four (index_of_root r)

-- an operand of a step; a constant's value is its pattern
abbrev pub operand_text : Operand → List ℕ
operand_text (Register label role x) = reg_text x
operand_text (operand.Site n) = four n
operand_text (operand.Array n) = four n
operand_text (operand.Column n) = four n
operand_text (operand.Slot n) = four n
operand_text (operand.Parameter n) = four n
operand_text (operand.Ahead n) = four n
operand_text (operand.Back n) = four n
operand_text (operand.Type label t) = number_of_type t ∷ []
operand_text (operand.Value t v) = eight (bits_of v)
operand_text (operand.Unary op) = number_of_unary op ∷ []
operand_text (operand.Binary op) = number_of_binary op ∷ []
operand_text (operand.Function f) = number_of_function f ∷ []
operand_text (operand.Query what) = number_of_query what ∷ []
operand_text (operand.Read r) = root_text r
operand_text (operand.Written r) = root_text r

-- the number of each step
abbrev pub number_of_step : Step → ℕ
number_of_step (Const to on value) = 0
number_of_step (Copy to from mask) = 1
number_of_step (Unary op on to a mask) = 2
number_of_step (Binary op on to a b mask) = 3
number_of_step (Builtin f on to a b c mask) = 4
number_of_step (Convert to kind from was mask) = 5
number_of_step (Spread to from) = 6
number_of_step (First to from on mask) = 7
number_of_step (Ask what to dim mask) = 8
number_of_step (Argument number to mask) = 9
number_of_step (Load site on root index to mask) = 10
number_of_step (Store site on root index from mask) = 11
number_of_step (Clear array mask) = 12
number_of_step (ColumnGet column to) = 13
number_of_step (ColumnPut column from mask) = 14
number_of_step (OnceGet slot to) = 15
number_of_step (OncePut slot from) = 16
number_of_step (VoteGet to) = 17
number_of_step (VotePut from mask) = 18
number_of_step (TestStep to from mask) = 19
number_of_step (MaskAnd to a b) = 20
number_of_step (MaskOr to a b) = 21
number_of_step (MaskLess to a b) = 22
number_of_step (Jump target) = 23
number_of_step (SkipNone mask target) = 24
number_of_step (SkipZero from target) = 25
number_of_step (Turn mask target) = 26
number_of_step (Mark site mask) = 27

-- a step: its number, and its operands in the order in which the listing has them
abbrev pub step_text : Step → List ℕ
step_text s = number_of_step s ∷ flat_texts operand_text (row_of s).operands

-- ---- codes and nodes

abbrev pub counts_text : Counts → List ℕ
counts_text c = four c.narrow ++ (four c.wide ++ (four c.masks ++ four c.scalars))

abbrev pub code_text : PlainCode → List ℕ
code_text c = list_text step_text c.steps ++ counts_text c.counts

abbrev pub count_of_works : Works → ℕ
count_of_works idle = 0
count_of_works (then_work first others) = suc (count_of_works others)

abbrev mutual
  pub work_text : Work → List ℕ
  work_text (Items code) = 0 ∷ code_text code
  work_text (Seq works) = 1 ∷ (eight (count_of_works works) ++ works_text works)
  work_text (Vote test agreed refused mixed) =
      2 ∷ (code_text test ++ (work_text agreed ++ (work_text refused ++ code_text mixed)))
  work_text (Loop test_first test body rest) =
      3 ∷ (number_of_truth test_first ∷ (work_text test ++ (work_text body ++ code_text rest)))

  pub works_text : Works → List ℕ
  works_text idle = []
  works_text (then_work first others) = work_text first ++ works_text others

-- ---- objects

abbrev pub place_text : Place → List ℕ
place_text p = four p.line ++ four p.column

abbrev pub kind_text : VarKind → List ℕ
kind_text (ScalarKind t) = 0 ∷ (number_of_type t ∷ [])
kind_text (Pointer space element root) =
    1 ∷ (number_of_space space ∷ (number_of_type element ∷ root_text root))

abbrev pub table_text : PlainTable → List ℕ
table_text t =
    word_text t.name ++ (number_of_space t.space ∷ (number_of_type t.element ∷
    (list_text eight t.dims ++ (place_text t.place ++ word_text t.bytes))))

-- three numbers, where there are any
abbrev pub sizes_text : Option (List ℕ) → List ℕ
sizes_text None = 0 ∷ []
sizes_text (Some sizes) = 1 ∷ flat_texts eight sizes

-- an object: four letters, then its fields in the order of declaration. Up to the parameters
abbrev pub head_text : PlainObject → List ℕ
head_text o =
    codes "WGO1" ++ (word_text o.kernel ++ (number_of_width o.width ∷ list_text kind_text o.params))

-- what it keeps in memory
abbrev pub memory_text : PlainObject → List ℕ
memory_text o =
    list_text table_text o.tables ++ (list_text eight o.locals ++ (list_text eight o.privates
    ++ (four o.columns ++ four o.slots)))

-- the places of its sites, what it does, and the required sizes
abbrev pub tail_text : PlainObject → List ℕ
tail_text o = list_text place_text o.sites ++ (work_text o.top ++ sizes_text o.sizes)

abbrev pub object_text : PlainObject → List ℕ
object_text o = head_text o ++ (memory_text o ++ tail_text o)
