-- What was written is read again, whatever follows it: numbers, registers and steps.
use Rattle.std.proofs.Common.{◌≡◌, ℕ, ◌^◌, ◌<◌, false, ltb, List, [], ◌∷◌, ◌++◌, length}
use Rattle.std.proofs.Common.{refl, ap, ◌∙◌, append_assoc, arith, ℤ, lit<}
use Rattle.std.specs.Int.{w32, w64, from_le_bytes, to_le_bytes}
use Rattle.std.proofs.lemmas.Bool.{le-ltb}
use Rattle.std.proofs.lemmas.List.{take_at, drop_at, length-append}
use Rattle.std.proofs.lemmas.Nat.{from_le_bytes-to_le_bytes_4, from_le_bytes-to_le_bytes_8}
use Rattle.wg_num.specs.declared.types.IntType.{IntType}
use Rattle.wg_num.specs.declared.types.IntType.TheVariants as type
use Rattle.wg_num.specs.declared.types.Un.{Un}
use Rattle.wg_num.specs.declared.types.Un.TheVariants as un
use Rattle.wg_num.specs.declared.types.Bin.{Bin}
use Rattle.wg_num.specs.declared.types.Bin.TheVariants as bin
use Rattle.wg_num.specs.declared.types.Fun.{Fun}
use Rattle.wg_num.specs.declared.types.Fun.TheVariants as fun
use Rattle.wg_num.specs.Wrap.{IsValue, bits_of}
use Rattle.wg_num.proofs.WrapLaws.{value-bits, residue-lt}
use Rattle.cl_model.specs.declared.program.Query.{Query}
use Rattle.cl_model.specs.declared.program.Query.TheVariants as query
use Rattle.cl_model.specs.declared.program.Root.{Root}
use Rattle.cl_model.specs.declared.program.Root.TheVariants as root
use Rattle.lane_code.specs.declared.step.Bank.{Bank}
use Rattle.lane_code.specs.declared.step.Bank.TheVariants as bank
use Rattle.lane_code.specs.declared.step.Reg.{Reg}
use Rattle.lane_code.specs.declared.step.Step.{Step}
use Rattle.lane_code.specs.declared.step.Step.TheVariants.{Const, Copy, Unary, Binary, Builtin, Convert, Spread}
use Rattle.lane_code.specs.declared.step.Step.TheVariants.{First, Ask, Argument, Load, Store, Clear, ColumnGet}
use Rattle.lane_code.specs.declared.step.Step.TheVariants.{ColumnPut, OnceGet, OncePut, VoteGet, VotePut}
use Rattle.lane_code.specs.declared.step.Step.TheVariants.{Test as TestStep, MaskAnd, MaskOr, MaskLess, Jump}
use Rattle.lane_code.specs.declared.step.Step.TheVariants.{SkipNone, SkipZero, Turn, Mark}
use Rattle.lane_code.specs.Rows.{row_of}
use Rattle.wg_object.specs.Numbers.{number_of_type, type_of_number, number_of_unary, unary_of_number}
use Rattle.wg_object.specs.Numbers.{number_of_binary, binary_of_number, number_of_function, function_of_number}
use Rattle.wg_object.specs.Numbers.{number_of_query, query_of_number, number_of_bank, bank_of_number}
use Rattle.wg_object.specs.Numbers.{number_of_root, index_of_root, root_of_number}
use Rattle.wg_object.specs.Text.{four, eight, flat_texts, reg_text, root_text, operand_text, number_of_step, step_text}
use Rattle.wg_object.specs.Valid.{IsFour, IsStep}
use Rattle.wg_object.specs.Reading.{four_at, eight_at, reg_at, type_at, root_at, two_at, three_at}
use Rattle.wg_object.specs.Reading.{number_reg_at, reg_number_at, const_at, unary_at, binary_at, builtin_at}
use Rattle.wg_object.specs.Reading.{convert_at, first_at, ask_at, access_at, two_step_at, three_step_at}
use Rattle.wg_object.specs.Reading.{number_reg_step_at, number_two_step_at, reg_number_step_at, vote_get_at, jump_at}
use Rattle.wg_object.specs.Reading.{shaped_at, step_at}

-- ---- numbers

-- bytes in front, and what is behind them
four_front : (bytes rest : List ℕ) → length bytes ≡ 4 → four_at (bytes ++ rest) ≡ (from_le_bytes w32 bytes, rest)
unfolding four_at
four_front bytes rest len =
    let long : ltb (length (bytes ++ rest)) 4 ≡ false = le-ltb _ _ (omega (arith, length-append bytes rest)) in
    rw (long, take_at bytes rest 4 len, drop_at bytes rest 4 len) refl

eight_front : (bytes rest : List ℕ) → length bytes ≡ 8 → eight_at (bytes ++ rest) ≡ (from_le_bytes w64 bytes, rest)
unfolding eight_at
eight_front bytes rest len =
    let long : ltb (length (bytes ++ rest)) 8 ≡ false = le-ltb _ _ (omega (arith, length-append bytes rest)) in
    rw (long, take_at bytes rest 8 len, drop_at bytes rest 8 len) refl

pub four_again : (n : ℕ) (rest : List ℕ) → n < 2 ^ 32 → four_at (four n ++ rest) ≡ (n, rest)
unfolding four
four_again n rest lt =
    four_front (to_le_bytes w32 n) rest refl ∙ ap (λ (k : ℕ). (k, rest)) (from_le_bytes-to_le_bytes_4 n lt)

pub eight_again : (n : ℕ) (rest : List ℕ) → n < 2 ^ 64 → eight_at (eight n ++ rest) ≡ (n, rest)
unfolding eight
eight_again n rest lt =
    eight_front (to_le_bytes w64 n) rest refl ∙ ap (λ (k : ℕ). (k, rest)) (from_le_bytes-to_le_bytes_8 n lt)

-- ---- enums

pub type_back : (t : IntType) → type_of_number (number_of_type t) ≡ t
type_back type.Bool = refl
type_back type.Char = refl
type_back type.Uchar = refl
type_back type.Short = refl
type_back type.Ushort = refl
type_back type.Int = refl
type_back type.Uint = refl
type_back type.Long = refl
type_back type.Ulong = refl

pub unary_back : (op : Un) → unary_of_number (number_of_unary op) ≡ op
unary_back un.Plus = refl
unary_back un.Minus = refl
unary_back un.Flip = refl
unary_back un.Not = refl

pub binary_back : (op : Bin) → binary_of_number (number_of_binary op) ≡ op
binary_back bin.Add = refl
binary_back bin.Sub = refl
binary_back bin.Mul = refl
binary_back bin.Div = refl
binary_back bin.Rem = refl
binary_back bin.Shl = refl
binary_back bin.Shr = refl
binary_back bin.And = refl
binary_back bin.Or = refl
binary_back bin.Xor = refl
binary_back bin.Eq = refl
binary_back bin.Ne = refl
binary_back bin.Lt = refl
binary_back bin.Le = refl
binary_back bin.Gt = refl
binary_back bin.Ge = refl

pub function_back : (f : Fun) → function_of_number (number_of_function f) ≡ f
function_back fun.Abs = refl
function_back fun.AbsDiff = refl
function_back fun.Min = refl
function_back fun.Max = refl
function_back fun.Clamp = refl
function_back fun.AddSat = refl
function_back fun.SubSat = refl
function_back fun.Hadd = refl
function_back fun.Rhadd = refl
function_back fun.MulHi = refl
function_back fun.Rotate = refl
function_back fun.Clz = refl
function_back fun.Popcount = refl

pub query_back : (what : Query) → query_of_number (number_of_query what) ≡ what
query_back query.WorkDim = refl
query_back query.GlobalId = refl
query_back query.LocalId = refl
query_back query.GroupId = refl
query_back query.GlobalSize = refl
query_back query.LocalSize = refl
query_back query.NumGroups = refl
query_back query.GlobalOffset = refl

pub bank_back : (b : Bank) → bank_of_number (number_of_bank b) ≡ b
bank_back bank.Narrow = refl
bank_back bank.Wide = refl
bank_back bank.Mask = refl
bank_back bank.Scalar = refl

pub root_back : (r : Root) → root_of_number (number_of_root r) (index_of_root r) ≡ r
root_back (root.Param n) = refl
root_back (root.Constant n) = refl
root_back (root.Local n) = refl
root_back (root.Private n) = refl

-- ---- registers

pub reg_again : (x : Reg) (rest : List ℕ) → IsFour x.number → reg_at (reg_text x ++ rest) ≡ (x, rest)
unfolding reg_at
reg_again x rest lt = rw (four_again x.number rest lt, bank_back x.bank) refl

pub type_again : (t : IntType) (rest : List ℕ) → type_at (number_of_type t ∷ rest) ≡ (t, rest)
unfolding type_at
type_again t rest = rw (type_back t) refl

pub root_again : (r : Root) (rest : List ℕ) → IsFour (index_of_root r) → root_at (root_text r ++ rest) ≡ (r, rest)
unfolding root_at
root_again r rest lt = rw (four_again (index_of_root r) rest lt, root_back r) refl

two_again : (x y : Reg) (rest : List ℕ) → IsFour x.number → IsFour y.number →
    two_at (reg_text x ++ (reg_text y ++ rest)) ≡ (x, y, rest)
unfolding two_at
two_again x y rest hx hy = rw (reg_again x (reg_text y ++ rest) hx, reg_again y rest hy) refl

three_again : (x y z : Reg) (rest : List ℕ) → IsFour x.number → IsFour y.number → IsFour z.number →
    three_at (reg_text x ++ (reg_text y ++ (reg_text z ++ rest))) ≡ (x, y, z, rest)
unfolding three_at
three_again x y z rest hx hy hz =
    rw (
      reg_again x (reg_text y ++ (reg_text z ++ rest)) hx,
      reg_again y (reg_text z ++ rest) hy,
      reg_again z rest hz,
    ) refl

number_reg_again : (n : ℕ) (x : Reg) (rest : List ℕ) → IsFour n → IsFour x.number →
    number_reg_at (four n ++ (reg_text x ++ rest)) ≡ (n, x, rest)
unfolding number_reg_at
number_reg_again n x rest hn hx = rw (four_again n (reg_text x ++ rest) hn, reg_again x rest hx) refl

reg_number_again : (x : Reg) (n : ℕ) (rest : List ℕ) → IsFour x.number → IsFour n →
    reg_number_at (reg_text x ++ (four n ++ rest)) ≡ (x, n, rest)
unfolding reg_number_at
reg_number_again x n rest hx hn = rw (reg_again x (four n ++ rest) hx, four_again n rest hn) refl

-- ---- steps

-- a constant is a value of its type
abbrev pub HasValue : Step → Type 0
HasValue (Const to on value) = IsValue on value
HasValue _ = Unit {0}

-- a pattern has 64 bits
bits_below : (z : ℤ) → bits_of z < 2 ^ 64
unfolding bits_of
bits_below z = residue-lt z (2 ^ 64) (lit< tt)

-- texts one behind the other, and bytes behind them
abbrev texts_then : {X : Type 0} → (X → List ℕ) → List X → List ℕ → List ℕ
texts_then text [] rest = rest
texts_then text (x ∷ xs) rest = text x ++ texts_then text xs rest

texts_then_is : {X : Type 0} (text : X → List ℕ) (xs : List X) (rest : List ℕ) →
    flat_texts text xs ++ rest ≡ texts_then text xs rest
texts_then_is text [] rest = refl
texts_then_is text (x ∷ xs) rest =
    append_assoc (text x) (flat_texts text xs) rest ∙ ap (λ (t : List ℕ). text x ++ t) (texts_then_is text xs rest)

operands_again : (s : Step) (rest : List ℕ) → IsStep s → HasValue s →
    step_at (number_of_step s ∷ texts_then operand_text (row_of s).operands rest) ≡ (s, rest)
unfolding step_at shaped_at two_step_at three_step_at number_reg_step_at number_two_step_at reg_number_step_at
    vote_get_at jump_at const_at unary_at binary_at builtin_at convert_at first_at ask_at access_at
operands_again (Const to on value) rest h v =
    let pattern = eight (bits_of value) ++ rest in
    rw (
      reg_again to (number_of_type on ∷ pattern) h.0,
      type_again on pattern,
      eight_again (bits_of value) rest (bits_below value),
      value-bits on value v,
    ) refl
operands_again (Copy to from mask) rest h v = rw (three_again to from mask rest h.0 h.1.0 h.1.1.0) refl
operands_again (Unary op on to a mask) rest h v =
    let registers = reg_text to ++ (reg_text a ++ (reg_text mask ++ rest)) in
    rw (unary_back op, type_again on registers, three_again to a mask rest h.1.1.0 h.1.1.1.0 h.1.1.1.1.0) refl
operands_again (Binary op on to a b mask) rest h v =
    let others = reg_text b ++ (reg_text mask ++ rest) in
    let registers = reg_text to ++ (reg_text a ++ others) in
    rw (
      binary_back op,
      type_again on registers,
      two_again to a others h.1.1.0 h.1.1.1.0,
      two_again b mask rest h.1.1.1.1.0 h.1.1.1.1.1.0,
    ) refl
operands_again (Builtin f on to a b c mask) rest h v =
    let others = reg_text c ++ (reg_text mask ++ rest) in
    let registers = reg_text to ++ (reg_text a ++ (reg_text b ++ others)) in
    rw (
      function_back f,
      type_again on registers,
      three_again to a b others h.1.1.0 h.1.1.1.0 h.1.1.1.1.0,
      two_again c mask rest h.1.1.1.1.1.0 h.1.1.1.1.1.1.0,
    ) refl
operands_again (Convert to kind from was mask) rest h v =
    let masked = reg_text mask ++ rest in
    let source = reg_text from ++ (number_of_type was ∷ masked) in
    rw (
      reg_again to (number_of_type kind ∷ source) h.0,
      type_again kind source,
      reg_again from (number_of_type was ∷ masked) h.1.1.0,
      type_again was masked,
      reg_again mask rest h.1.1.1.1.0,
    ) refl
operands_again (Spread to from) rest h v = rw (two_again to from rest h.0 h.1.0) refl
operands_again (First to from on mask) rest h v =
    let masked = reg_text mask ++ rest in
    rw (
      two_again to from (number_of_type on ∷ masked) h.0 h.1.0,
      type_again on masked,
      reg_again mask rest h.1.1.1.0,
    ) refl
operands_again (Ask what to dim mask) rest h v =
    rw (query_back what, three_again to dim mask rest h.1.0 h.1.1.0 h.1.1.1.0) refl
operands_again (Argument number to mask) rest h v =
    rw (four_again number (reg_text to ++ (reg_text mask ++ rest)) h.0, two_again to mask rest h.1.0 h.1.1.0) refl
operands_again (Load site on root index to mask) rest h v =
    let registers = reg_text index ++ (reg_text to ++ (reg_text mask ++ rest)) in
    rw (
      four_again site (number_of_type on ∷ (root_text root ++ registers)) h.0,
      type_again on (root_text root ++ registers),
      root_again root registers h.1.1.0,
      three_again index to mask rest h.1.1.1.0 h.1.1.1.1.0 h.1.1.1.1.1.0,
    ) refl
operands_again (Store site on root index from mask) rest h v =
    let registers = reg_text index ++ (reg_text from ++ (reg_text mask ++ rest)) in
    rw (
      four_again site (number_of_type on ∷ (root_text root ++ registers)) h.0,
      type_again on (root_text root ++ registers),
      root_again root registers h.1.1.0,
      three_again index from mask rest h.1.1.1.0 h.1.1.1.1.0 h.1.1.1.1.1.0,
    ) refl
operands_again (Clear array mask) rest h v = rw (number_reg_again array mask rest h.0 h.1.0) refl
operands_again (ColumnGet column to) rest h v = rw (number_reg_again column to rest h.0 h.1.0) refl
operands_again (ColumnPut column from mask) rest h v =
    rw (four_again column (reg_text from ++ (reg_text mask ++ rest)) h.0, two_again from mask rest h.1.0 h.1.1.0) refl
operands_again (OnceGet slot to) rest h v = rw (number_reg_again slot to rest h.0 h.1.0) refl
operands_again (OncePut slot from) rest h v = rw (number_reg_again slot from rest h.0 h.1.0) refl
operands_again (VoteGet to) rest h v = rw (reg_again to rest h.0) refl
operands_again (VotePut from mask) rest h v = rw (two_again from mask rest h.0 h.1.0) refl
operands_again (TestStep to from mask) rest h v = rw (three_again to from mask rest h.0 h.1.0 h.1.1.0) refl
operands_again (MaskAnd to a b) rest h v = rw (three_again to a b rest h.0 h.1.0 h.1.1.0) refl
operands_again (MaskOr to a b) rest h v = rw (three_again to a b rest h.0 h.1.0 h.1.1.0) refl
operands_again (MaskLess to a b) rest h v = rw (three_again to a b rest h.0 h.1.0 h.1.1.0) refl
operands_again (Jump target) rest h v = rw (four_again target rest h.0) refl
operands_again (SkipNone mask target) rest h v = rw (reg_number_again mask target rest h.0 h.1.0) refl
operands_again (SkipZero from target) rest h v = rw (reg_number_again from target rest h.0 h.1.0) refl
operands_again (Turn mask target) rest h v = rw (reg_number_again mask target rest h.0 h.1.0) refl
operands_again (Mark site mask) rest h v = rw (number_reg_again site mask rest h.0 h.1.0) refl

-- a step that was written is read again, whatever follows it
pub step_again : (s : Step) (rest : List ℕ) → IsStep s → HasValue s → step_at (step_text s ++ rest) ≡ (s, rest)
step_again s rest h v =
    ap (λ (t : List ℕ). step_at (number_of_step s ∷ t)) (texts_then_is operand_text (row_of s).operands rest) ∙
    operands_again s rest h v
