-- The text of a group program.
use Rattle.std.specs.Prelude.{ℕ, ◌++◌, List, [], ◌∷◌, codes, decimal}
use Rattle.std.specs.Fmt.{signed_decimal}
use Rattle.std.specs.List.{flat_map}
use Rattle.wg_num.specs.declared.types.IntType.{IntType}
use Rattle.wg_num.specs.declared.types.IntType.TheVariants as type
use Rattle.wg_num.specs.declared.types.Un.{Un}
use Rattle.wg_num.specs.declared.types.Un.TheVariants as un
use Rattle.wg_num.specs.declared.types.Bin.{Bin}
use Rattle.wg_num.specs.declared.types.Bin.TheVariants as bin
use Rattle.wg_num.specs.declared.types.Fun.{Fun}
use Rattle.wg_num.specs.declared.types.Fun.TheVariants as fun
use Rattle.cl_model.specs.declared.program.Query.{Query}
use Rattle.cl_model.specs.declared.program.Query.TheVariants as query
use Rattle.cl_model.specs.declared.program.Root.{Root}
use Rattle.cl_model.specs.declared.program.Root.TheVariants as root
use Rattle.lane_code.specs.declared.step.Bank.{Bank}
use Rattle.lane_code.specs.declared.step.Bank.TheVariants.{Narrow, Wide, Mask as MaskBank, Scalar}
use Rattle.lane_code.specs.declared.step.Step.{Step}
use Rattle.lane_code.specs.declared.operand.Label.{Label}
use Rattle.lane_code.specs.declared.operand.Label.TheVariants.{To, From, A, B, C, Index, Dim, Mask, Of, Was, Kind}
use Rattle.lane_code.specs.declared.operand.Operand.{Operand}
use Rattle.lane_code.specs.declared.operand.Operand.TheVariants as operand
use Rattle.lane_code.specs.declared.operand.Operand.TheVariants.{Register}
use Rattle.lane_code.specs.Rows.{row_of}

-- types, operators, functions and queries by their names
abbrev pub type_name : IntType → List ℕ
type_name type.Bool = codes "Bool"
type_name type.Char = codes "Char"
type_name type.Uchar = codes "Uchar"
type_name type.Short = codes "Short"
type_name type.Ushort = codes "Ushort"
type_name type.Int = codes "Int"
type_name type.Uint = codes "Uint"
type_name type.Long = codes "Long"
type_name type.Ulong = codes "Ulong"

abbrev pub unary_name : Un → List ℕ
unary_name un.Plus = codes "Plus"
unary_name un.Minus = codes "Minus"
unary_name un.Flip = codes "Flip"
unary_name un.Not = codes "Not"

abbrev pub binary_name : Bin → List ℕ
binary_name bin.Add = codes "Add"
binary_name bin.Sub = codes "Sub"
binary_name bin.Mul = codes "Mul"
binary_name bin.Div = codes "Div"
binary_name bin.Rem = codes "Rem"
binary_name bin.Shl = codes "Shl"
binary_name bin.Shr = codes "Shr"
binary_name bin.And = codes "And"
binary_name bin.Or = codes "Or"
binary_name bin.Xor = codes "Xor"
binary_name bin.Eq = codes "Eq"
binary_name bin.Ne = codes "Ne"
binary_name bin.Lt = codes "Lt"
binary_name bin.Le = codes "Le"
binary_name bin.Gt = codes "Gt"
binary_name bin.Ge = codes "Ge"

abbrev pub function_name : Fun → List ℕ
function_name fun.Abs = codes "Abs"
function_name fun.AbsDiff = codes "AbsDiff"
function_name fun.Min = codes "Min"
function_name fun.Max = codes "Max"
function_name fun.Clamp = codes "Clamp"
function_name fun.AddSat = codes "AddSat"
function_name fun.SubSat = codes "SubSat"
function_name fun.Hadd = codes "Hadd"
function_name fun.Rhadd = codes "Rhadd"
function_name fun.MulHi = codes "MulHi"
function_name fun.Rotate = codes "Rotate"
function_name fun.Clz = codes "Clz"
function_name fun.Popcount = codes "Popcount"

abbrev pub query_name : Query → List ℕ
query_name query.WorkDim = codes "WorkDim"
query_name query.GlobalId = codes "GlobalId"
query_name query.LocalId = codes "LocalId"
query_name query.GroupId = codes "GroupId"
query_name query.GlobalSize = codes "GlobalSize"
query_name query.LocalSize = codes "LocalSize"
query_name query.NumGroups = codes "NumGroups"
query_name query.GlobalOffset = codes "GlobalOffset"

-- a root by its name and number
abbrev pub root_name : Root → List ℕ
root_name (root.Param n) = codes "Param "
root_name (root.Constant n) = codes "Constant "
root_name (root.Local n) = codes "Local "
root_name (root.Private n) = codes "Private "

abbrev pub root_number : Root → ℕ
root_number (root.Param n) = n
root_number (root.Constant n) = n
root_number (root.Local n) = n
root_number (root.Private n) = n

-- a register by the letter of its bank and its number
abbrev pub bank_letter : Bank → List ℕ
bank_letter Narrow = codes "v"
bank_letter Wide = codes "w"
bank_letter MaskBank = codes "m"
bank_letter Scalar = codes "s"

abbrev pub label_name : Label → List ℕ
label_name To = codes "to"
label_name From = codes "from"
label_name A = codes "a"
label_name B = codes "b"
label_name C = codes "c"
label_name Index = codes "index"
label_name Dim = codes "dim"
label_name Mask = codes "mask"
label_name Of = codes "of"
label_name Was = codes "was"
label_name Kind = codes "kind"

-- an operand: a blank, its name, `=` and its value
abbrev pub operand_text : Operand → List ℕ
operand_text (Register label role x) =
    codes " " ++ (label_name label ++ (codes "=" ++ (bank_letter x.bank ++ decimal x.number)))
operand_text (operand.Site n) = codes " site=" ++ decimal n
operand_text (operand.Array n) = codes " array=" ++ decimal n
operand_text (operand.Column n) = codes " column=" ++ decimal n
operand_text (operand.Slot n) = codes " slot=" ++ decimal n
operand_text (operand.Parameter n) = codes " number=" ++ decimal n
operand_text (operand.Ahead n) = codes " target=" ++ decimal n
operand_text (operand.Back n) = codes " target=" ++ decimal n
operand_text (operand.Type label t) = codes " " ++ (label_name label ++ (codes "=" ++ type_name t))
operand_text (operand.Value t v) = codes " value=" ++ signed_decimal v
operand_text (operand.Unary op) = codes " op=" ++ unary_name op
operand_text (operand.Binary op) = codes " op=" ++ binary_name op
operand_text (operand.Function f) = codes " f=" ++ function_name f
operand_text (operand.Query what) = codes " what=" ++ query_name what
operand_text (operand.Read r) = codes " root=" ++ (root_name r ++ decimal (root_number r))
operand_text (operand.Written r) = codes " root=" ++ (root_name r ++ decimal (root_number r))

abbrev pub operands_text : List ℕ → List Operand → List ℕ
operands_text name operands = name ++ flat_map operand_text operands

-- the name of a step, and its operands in order
abbrev pub step_text : Step → List ℕ
step_text step = operands_text (row_of step).name (row_of step).operands
