-- Reading an object from its first byte on. Reading never fails: what is missing counts as 0, and steps that are no
-- code as none. Whether the bytes are the text of what was read is asked afterwards.
use Rattle.std.specs.Prelude.{ℕ, zero, suc, List, [], ◌∷◌, length, take, drop, Option, Some, None, nat_lt, ◌==◌}
use Rattle.std.specs.Prelude.{if◌then◌else◌}
use Rattle.std.specs.Prelude.{Bool as Test, true, false}
use Rattle.std.specs.Int.{w32, w64, from_le_bytes}
use Rattle.wg_num.specs.declared.types.IntType.{IntType}
use Rattle.wg_num.specs.declared.types.Place.{Place}
use Rattle.wg_num.specs.declared.types.Width.{Width}
use Rattle.wg_num.specs.Wrap.{value_of}
use Rattle.cl_model.specs.declared.program.Root.{Root}
use Rattle.cl_model.specs.declared.program.VarKind.{VarKind}
use Rattle.cl_model.specs.declared.program.VarKind.TheVariants.{Scalar as ScalarKind, Pointer}
use Rattle.lane_code.specs.declared.step.Reg.{Reg}
use Rattle.lane_code.specs.declared.step.Step.{Step}
use Rattle.lane_code.specs.declared.step.Step.TheVariants.{Const, Copy, Unary, Binary, Builtin, Convert, Spread}
use Rattle.lane_code.specs.declared.step.Step.TheVariants.{First, Ask, Argument, Load, Store, Clear, ColumnGet}
use Rattle.lane_code.specs.declared.step.Step.TheVariants.{ColumnPut, OnceGet, OncePut, VoteGet, VotePut}
use Rattle.lane_code.specs.declared.step.Step.TheVariants.{Test as TestStep, MaskAnd, MaskOr, MaskLess, Jump}
use Rattle.lane_code.specs.declared.step.Step.TheVariants.{SkipNone, SkipZero, Turn, Mark}
use Rattle.lane_code.specs.declared.code.Counts.{Counts}
use Rattle.lane_code.specs.Fits.{is_code}
use Rattle.lane_code.specs.Program.{PlainCode, Work, Items, Seq, Vote, Loop, Works, idle, then_work}
use Rattle.wg_object.specs.declared.step_parts.Shape.{Shape}
use Rattle.wg_object.specs.declared.step_parts.Shape.TheVariants as shape
use Rattle.wg_object.specs.Numbers.{truth_of_number, type_of_number, unary_of_number, binary_of_number}
use Rattle.wg_object.specs.Numbers.{function_of_number, query_of_number, width_of_number, space_of_number}
use Rattle.wg_object.specs.Numbers.{bank_of_number, root_of_number}
use Rattle.wg_object.specs.Plain.{PlainTable, PlainObject}

-- ---- numbers

-- the first byte
abbrev pub byte_at : List ℕ → ℕ × List ℕ
byte_at [] = (0, [])
byte_at (b ∷ bytes) = (b, bytes)

-- the first four bytes as a number, lowest first, and the first eight
unfoldable pub four_at : List ℕ → ℕ × List ℕ
four_at bytes =
    if nat_lt (length bytes) 4 then (0, []) else (from_le_bytes w32 (take 4 bytes), drop 4 bytes)

unfoldable pub eight_at : List ℕ → ℕ × List ℕ
eight_at bytes =
    if nat_lt (length bytes) 8 then (0, []) else (from_le_bytes w64 (take 8 bytes), drop 8 bytes)

-- ---- steps

unfoldable pub reg_at : List ℕ → Reg × List ℕ
reg_at bytes =
    let bank = byte_at bytes in
    let number = four_at bank.1 in (record { bank = bank_of_number bank.0; number = number.0 }, number.1)

unfoldable pub type_at : List ℕ → IntType × List ℕ
type_at bytes = let n = byte_at bytes in (type_of_number n.0, n.1)

unfoldable pub root_at : List ℕ → Root × List ℕ
root_at bytes =
    let kind = byte_at bytes in
    let index = four_at kind.1 in (root_of_number kind.0 index.0, index.1)

-- two registers, three, a number and a register, and the other way round
unfoldable pub two_at : List ℕ → Reg × Reg × List ℕ
two_at bytes = let x = reg_at bytes in let y = reg_at x.1 in (x.0, y.0, y.1)

unfoldable pub three_at : List ℕ → Reg × Reg × Reg × List ℕ
three_at bytes = let x = reg_at bytes in let y = reg_at x.1 in let z = reg_at y.1 in (x.0, y.0, z.0, z.1)

unfoldable pub number_reg_at : List ℕ → ℕ × Reg × List ℕ
number_reg_at bytes = let n = four_at bytes in let x = reg_at n.1 in (n.0, x.0, x.1)

unfoldable pub reg_number_at : List ℕ → Reg × ℕ × List ℕ
reg_number_at bytes = let x = reg_at bytes in let n = four_at x.1 in (x.0, n.0, n.1)

-- the fields of each kind of step that others do not share
unfoldable pub const_at : List ℕ → Step × List ℕ
const_at bytes =
    let to = reg_at bytes in
    let of = type_at to.1 in
    let pattern = eight_at of.1 in (Const to.0 of.0 (value_of of.0 pattern.0), pattern.1)

unfoldable pub unary_at : List ℕ → Step × List ℕ
unary_at bytes =
    let op = byte_at bytes in
    let of = type_at op.1 in
    let x = three_at of.1 in (Unary (unary_of_number op.0) of.0 x.0 x.1 x.2, x.3)

unfoldable pub binary_at : List ℕ → Step × List ℕ
binary_at bytes =
    let op = byte_at bytes in
    let of = type_at op.1 in
    let x = two_at of.1 in
    let y = two_at x.2 in (Binary (binary_of_number op.0) of.0 x.0 x.1 y.0 y.1, y.2)

unfoldable pub builtin_at : List ℕ → Step × List ℕ
builtin_at bytes =
    let f = byte_at bytes in
    let of = type_at f.1 in
    let x = three_at of.1 in
    let y = two_at x.3 in (Builtin (function_of_number f.0) of.0 x.0 x.1 x.2 y.0 y.1, y.2)

unfoldable pub convert_at : List ℕ → Step × List ℕ
convert_at bytes =
    let to = reg_at bytes in
    let kind = type_at to.1 in
    let from = reg_at kind.1 in
    let was = type_at from.1 in
    let mask = reg_at was.1 in (Convert to.0 kind.0 from.0 was.0 mask.0, mask.1)

unfoldable pub first_at : List ℕ → Step × List ℕ
first_at bytes =
    let x = two_at bytes in
    let of = type_at x.2 in
    let mask = reg_at of.1 in (First x.0 x.1 of.0 mask.0, mask.1)

unfoldable pub ask_at : List ℕ → Step × List ℕ
ask_at bytes = let what = byte_at bytes in let x = three_at what.1 in (Ask (query_of_number what.0) x.0 x.1 x.2, x.3)

unfoldable pub access_at : Test → List ℕ → Step × List ℕ
access_at stores bytes =
    let site = four_at bytes in
    let of = type_at site.1 in
    let root = root_at of.1 in
    let x = three_at root.1 in
    (if stores then Store site.0 of.0 root.0 x.0 x.1 x.2 else Load site.0 of.0 root.0 x.0 x.1 x.2, x.3)

-- steps of one register, two and three, of a number, of a number and one register or two, and of a register and a
-- number, by the step's number
abbrev pub two_made : ℕ → Reg → Reg → Step
two_made n x y = if n == 6 then Spread x y else VotePut x y

abbrev pub three_made : ℕ → Reg → Reg → Reg → Step
three_made n x y z =
    if n == 1 then Copy x y z else if n == 19 then TestStep x y z else if n == 20 then MaskAnd x y z else
    if n == 21 then MaskOr x y z else MaskLess x y z

abbrev pub number_reg_made : ℕ → ℕ → Reg → Step
number_reg_made n k x =
    if n == 12 then Clear k x else if n == 13 then ColumnGet k x else if n == 15 then OnceGet k x else
    if n == 16 then OncePut k x else Mark k x

abbrev pub number_two_made : ℕ → ℕ → Reg → Reg → Step
number_two_made n k x y = if n == 9 then Argument k x y else ColumnPut k x y

abbrev pub reg_number_made : ℕ → Reg → ℕ → Step
reg_number_made n x k = if n == 24 then SkipNone x k else if n == 25 then SkipZero x k else Turn x k

unfoldable pub two_step_at : ℕ → List ℕ → Step × List ℕ
two_step_at n bytes = let x = two_at bytes in (two_made n x.0 x.1, x.2)

unfoldable pub three_step_at : ℕ → List ℕ → Step × List ℕ
three_step_at n bytes = let x = three_at bytes in (three_made n x.0 x.1 x.2, x.3)

unfoldable pub number_reg_step_at : ℕ → List ℕ → Step × List ℕ
number_reg_step_at n bytes = let x = number_reg_at bytes in (number_reg_made n x.0 x.1, x.2)

unfoldable pub number_two_step_at : ℕ → List ℕ → Step × List ℕ
number_two_step_at n bytes = let k = four_at bytes in let x = two_at k.1 in (number_two_made n k.0 x.0 x.1, x.2)

unfoldable pub reg_number_step_at : ℕ → List ℕ → Step × List ℕ
reg_number_step_at n bytes = let x = reg_number_at bytes in (reg_number_made n x.0 x.1, x.2)

unfoldable pub vote_get_at : List ℕ → Step × List ℕ
vote_get_at bytes = let x = reg_at bytes in (VoteGet x.0, x.1)

unfoldable pub jump_at : List ℕ → Step × List ℕ
jump_at bytes = let k = four_at bytes in (Jump k.0, k.1)

-- the kinds of fields that follow a step's number
abbrev pub shape_of : ℕ → Shape
shape_of n =
    if n == 0 then shape.Const else if n == 1 then shape.Three else if n == 2 then shape.Unary else
    if n == 3 then shape.Binary else if n == 4 then shape.Builtin else if n == 5 then shape.Convert else
    if n == 6 then shape.Two else if n == 7 then shape.First else if n == 8 then shape.Ask else
    if n == 9 then shape.NumberTwo else if n == 10 then shape.Load else if n == 11 then shape.Store else
    if n == 14 then shape.NumberTwo else if n == 17 then shape.VoteGet else if n == 18 then shape.Two else
    if n == 19 then shape.Three else if n == 20 then shape.Three else if n == 21 then shape.Three else
    if n == 22 then shape.Three else if n == 23 then shape.Jump else if n == 24 then shape.RegNumber else
    if n == 25 then shape.RegNumber else if n == 26 then shape.RegNumber else shape.NumberReg

-- a step whose number was read
unfoldable pub shaped_at : Shape → ℕ → List ℕ → Step × List ℕ
shaped_at shape.Const n rest = const_at rest
shaped_at shape.Unary n rest = unary_at rest
shaped_at shape.Binary n rest = binary_at rest
shaped_at shape.Builtin n rest = builtin_at rest
shaped_at shape.Convert n rest = convert_at rest
shaped_at shape.First n rest = first_at rest
shaped_at shape.Ask n rest = ask_at rest
shaped_at shape.Load n rest = access_at false rest
shaped_at shape.Store n rest = access_at true rest
shaped_at shape.VoteGet n rest = vote_get_at rest
shaped_at shape.Jump n rest = jump_at rest
shaped_at shape.Two n rest = two_step_at n rest
shaped_at shape.Three n rest = three_step_at n rest
shaped_at shape.NumberReg n rest = number_reg_step_at n rest
shaped_at shape.NumberTwo n rest = number_two_step_at n rest
shaped_at shape.RegNumber n rest = reg_number_step_at n rest

unfoldable pub step_at : List ℕ → Step × List ℕ
step_at bytes = let n = byte_at bytes in shaped_at (shape_of n.0) n.0 n.1

-- ---- lists

-- so many items, fewer where the bytes end
unfoldable pub items_at : {X : Type 0} → (List ℕ → X × List ℕ) → ℕ → List ℕ → List X × List ℕ
items_at read zero bytes = ([], bytes)
items_at read (suc n) [] = ([], [])
items_at read (suc n) (b ∷ bytes) =
    let first = read (b ∷ bytes) in
    let others = items_at read n first.1 in (first.0 ∷ others.0, others.1)

-- a list behind its count
unfoldable pub list_at : {X : Type 0} → (List ℕ → X × List ℕ) → List ℕ → List X × List ℕ
list_at read bytes = let n = eight_at bytes in items_at read n.0 n.1

-- bytes behind their count
unfoldable pub word_at : List ℕ → List ℕ × List ℕ
word_at bytes = let n = eight_at bytes in (take n.0 n.1, drop n.0 n.1)

-- ---- codes and nodes

unfoldable pub counts_at : List ℕ → Counts × List ℕ
counts_at bytes =
    let narrow = four_at bytes in
    let wide = four_at narrow.1 in
    let masks = four_at wide.1 in
    let scalars = four_at masks.1 in
    (record { narrow = narrow.0; wide = wide.0; masks = masks.0; scalars = scalars.0 }, scalars.1)

-- the code of no steps
abbrev pub no_code : PlainCode
no_code = record { steps = []; counts = record { narrow = 0; wide = 0; masks = 1; scalars = 0 } }

-- these steps where they are a code
abbrev pub code_with : Counts → List Step → PlainCode
code_with counts steps = if is_code counts steps then record { steps = steps; counts = counts } else no_code

unfoldable pub code_at : List ℕ → PlainCode × List ℕ
code_at bytes =
    let steps = list_at step_at bytes in
    let counts = counts_at steps.1 in (code_with counts.0 steps.0, counts.1)

-- what may go too deep
infixl 10 ◌>>=◌
abbrev pub ◌>>=◌ : {A B : Type 0} → Option A → (A → Option B) → Option B
None >>= f = None
(Some x) >>= f = f x

-- so many nodes, fewer where the bytes end
unfoldable pub works_at : (List ℕ → Option (Work × List ℕ)) → ℕ → List ℕ → Option (Works × List ℕ)
works_at read zero bytes = Some (idle, bytes)
works_at read (suc n) [] = Some (idle, [])
works_at read (suc n) (b ∷ bytes) =
    read (b ∷ bytes) >>= λ first. works_at read n first.1 >>= λ others. Some (then_work first.0 others.0, others.1)

unfoldable pub items_work_at : List ℕ → Option (Work × List ℕ)
items_work_at bytes = let code = code_at bytes in Some (Items code.0, code.1)

unfoldable pub seq_at : (List ℕ → Option (Work × List ℕ)) → List ℕ → Option (Work × List ℕ)
seq_at read bytes =
    let count = eight_at bytes in works_at read count.0 count.1 >>= λ works. Some (Seq works.0, works.1)

-- a vote and a loop, of which all is read but the last code
abbrev pub vote_made : PlainCode → Work → Work → List ℕ → Work × List ℕ
vote_made test agreed refused bytes = let mixed = code_at bytes in (Vote test agreed refused mixed.0, mixed.1)

abbrev pub loop_made : Test → Work → Work → List ℕ → Work × List ℕ
loop_made test_first test body bytes = let rest = code_at bytes in (Loop test_first test body rest.0, rest.1)

unfoldable pub vote_at : (List ℕ → Option (Work × List ℕ)) → List ℕ → Option (Work × List ℕ)
vote_at read bytes =
    let test = code_at bytes in
    read test.1 >>= λ agreed. read agreed.1 >>= λ refused. Some (vote_made test.0 agreed.0 refused.0 refused.1)

unfoldable pub loop_at : (List ℕ → Option (Work × List ℕ)) → List ℕ → Option (Work × List ℕ)
loop_at read bytes =
    let first = byte_at bytes in
    read first.1 >>= λ test. read test.1 >>= λ body.
    Some (loop_made (truth_of_number first.0) test.0 body.0 body.1)

-- a node by its number, where what is in it is read so
unfoldable pub work_with : (List ℕ → Option (Work × List ℕ)) → List ℕ → Option (Work × List ℕ)
work_with read bytes =
    let n = byte_at bytes in
    if n.0 == 1 then seq_at read n.1 else
    if n.0 == 2 then vote_at read n.1 else
    if n.0 == 3 then loop_at read n.1 else items_work_at n.1

-- a node with at most so many nodes inside one another
unfoldable pub work_at : ℕ → List ℕ → Option (Work × List ℕ)
work_at zero bytes = None
work_at (suc depth) bytes = work_with (work_at depth) bytes

-- ---- objects

unfoldable pub place_at : List ℕ → Place × List ℕ
place_at bytes =
    let line = four_at bytes in
    let column = four_at line.1 in (record { line = line.0; column = column.0 }, column.1)

unfoldable pub pointer_at : List ℕ → VarKind × List ℕ
pointer_at bytes =
    let space = byte_at bytes in
    let element = type_at space.1 in
    let root = root_at element.1 in (Pointer (space_of_number space.0) element.0 root.0, root.1)

unfoldable pub kind_at : List ℕ → VarKind × List ℕ
kind_at bytes =
    let n = byte_at bytes in
    if n.0 == 1 then pointer_at n.1 else (let t = type_at n.1 in (ScalarKind t.0, t.1))

unfoldable pub table_at : List ℕ → PlainTable × List ℕ
table_at bytes =
    let name = word_at bytes in
    let space = byte_at name.1 in
    let element = type_at space.1 in
    let dims = list_at eight_at element.1 in
    let place = place_at dims.1 in
    let content = word_at place.1 in (
      record {
        name = name.0;
        space = space_of_number space.0;
        element = element.0;
        dims = dims.0;
        place = place.0;
        bytes = content.0;
      },
      content.1,
    )

unfoldable pub three_numbers_at : List ℕ → List ℕ × List ℕ
three_numbers_at bytes =
    let x = eight_at bytes in
    let y = eight_at x.1 in
    let z = eight_at y.1 in (x.0 ∷ y.0 ∷ z.0 ∷ [], z.1)

unfoldable pub sizes_at : List ℕ → Option (List ℕ)
sizes_at bytes =
    let n = byte_at bytes in if n.0 == 1 then Some (three_numbers_at n.1).0 else None

-- what stands up to the parameters
pub record Head : Type 0 where
  pub kernel : List ℕ
  pub width : Width
  pub params : List VarKind

-- what it keeps in memory
pub record Kept : Type 0 where
  pub tables : List PlainTable
  pub locals : List ℕ
  pub privates : List ℕ
  pub columns : ℕ
  pub slots : ℕ

-- the places, what it does, and the sizes
pub record Tail : Type 0 where
  pub sites : List Place
  pub top : Work
  pub sizes : Option (List ℕ)

-- behind four letters
unfoldable pub head_at : List ℕ → Head × List ℕ
head_at bytes =
    let kernel = word_at (drop 4 bytes) in
    let width = byte_at kernel.1 in
    let params = list_at kind_at width.1 in
    (record { kernel = kernel.0; width = width_of_number width.0; params = params.0 }, params.1)

unfoldable pub kept_at : List ℕ → Kept × List ℕ
kept_at bytes =
    let tables = list_at table_at bytes in
    let locals = list_at eight_at tables.1 in
    let privates = list_at eight_at locals.1 in
    let columns = four_at privates.1 in
    let slots = four_at columns.1 in (
      record {
        tables = tables.0;
        locals = locals.0;
        privates = privates.0;
        columns = columns.0;
        slots = slots.0;
      },
      slots.1,
    )

unfoldable pub tail_at : ℕ → List ℕ → Option Tail
tail_at depth bytes =
    let sites = list_at place_at bytes in
    work_at depth sites.1 >>= λ top. Some (record { sites = sites.0; top = top.0; sizes = sizes_at top.1 })

-- an object of its parts
abbrev pub object_from : Head → Kept → Tail → PlainObject
object_from h k t = record {
  kernel = h.kernel;
  width = h.width;
  params = h.params;
  tables = k.tables;
  locals = k.locals;
  privates = k.privates;
  columns = k.columns;
  slots = k.slots;
  sites = t.sites;
  top = t.top;
  sizes = t.sizes;
}

-- the object, with at most so many nodes inside one another
unfoldable pub object_at : ℕ → List ℕ → Option PlainObject
object_at depth bytes =
    let head = head_at bytes in
    let kept = kept_at head.1 in
    tail_at depth kept.1 >>= λ tail. Some (object_from head.0 kept.0 tail)
