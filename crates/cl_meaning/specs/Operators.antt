-- Operators (OpenCL 1.2, section 6.3; C99, section 6.5).
use Rattle.std.specs.Prelude.{ℕ, List, [], ◌∷◌, Option, codes}
use Rattle.wg_num.specs.declared.types.Un.TheVariants.{Plus, Minus, Flip, Not}
use Rattle.wg_num.specs.declared.types.Bin.{Bin}
use Rattle.wg_num.specs.declared.types.Bin.TheVariants.{Add, Sub, Mul, Div, Rem, Shl, Shr, And, Or, Xor, Eq, Ne, Lt}
use Rattle.wg_num.specs.declared.types.Bin.TheVariants.{Le, Gt, Ge}
use Rattle.cl_meaning.specs.declared.operators.Prefix.{Prefix}
use Rattle.cl_meaning.specs.declared.operators.Prefix.TheVariants as prefix
use Rattle.cl_meaning.specs.declared.operators.Postfix.{Postfix}
use Rattle.cl_meaning.specs.declared.operators.Postfix.TheVariants as postfix
use Rattle.cl_meaning.specs.declared.operators.Setting.{Setting}
use Rattle.cl_meaning.specs.declared.operators.Setting.TheVariants as setting
use Rattle.cl_meaning.specs.OwnWords.{Row, looked_up}

abbrev pub binary_operators : List (Row Bin)
binary_operators =
    record { word = codes "+"; value = Add } ∷
    record { word = codes "-"; value = Sub } ∷
    record { word = codes "*"; value = Mul } ∷
    record { word = codes "/"; value = Div } ∷
    record { word = codes "%"; value = Rem } ∷
    record { word = codes "<<"; value = Shl } ∷
    record { word = codes ">>"; value = Shr } ∷
    record { word = codes "&"; value = And } ∷
    record { word = codes "|"; value = Or } ∷
    record { word = codes "^"; value = Xor } ∷
    record { word = codes "=="; value = Eq } ∷
    record { word = codes "!="; value = Ne } ∷
    record { word = codes "<"; value = Lt } ∷
    record { word = codes "<="; value = Le } ∷
    record { word = codes ">"; value = Gt } ∷
    record { word = codes ">="; value = Ge } ∷
    []

-- an operator on two numbers
unfoldable pub binary_in : List ℕ → Option Bin
binary_in w = looked_up w binary_operators

abbrev pub settings : List (Row Setting)
settings =
    record { word = codes "="; value = setting.Plain } ∷
    record { word = codes "+="; value = setting.With Add } ∷
    record { word = codes "-="; value = setting.With Sub } ∷
    record { word = codes "*="; value = setting.With Mul } ∷
    record { word = codes "/="; value = setting.With Div } ∷
    record { word = codes "%="; value = setting.With Rem } ∷
    record { word = codes "<<="; value = setting.With Shl } ∷
    record { word = codes ">>="; value = setting.With Shr } ∷
    record { word = codes "&="; value = setting.With And } ∷
    record { word = codes "|="; value = setting.With Or } ∷
    record { word = codes "^="; value = setting.With Xor } ∷
    []

-- an assignment
unfoldable pub setting_in : List ℕ → Option Setting
setting_in w = looked_up w settings

abbrev pub prefixes : List (Row Prefix)
prefixes =
    record { word = codes "++"; value = prefix.Step Add } ∷
    record { word = codes "--"; value = prefix.Step Sub } ∷
    record { word = codes "+"; value = prefix.Operator Plus } ∷
    record { word = codes "-"; value = prefix.Operator Minus } ∷
    record { word = codes "~"; value = prefix.Operator Flip } ∷
    record { word = codes "!"; value = prefix.Operator Not } ∷
    record { word = codes "&"; value = prefix.Address } ∷
    record { word = codes "*"; value = prefix.Content } ∷
    record { word = codes "sizeof ( )"; value = prefix.Size } ∷
    []

-- an operator before its operand, with its own words
unfoldable pub prefix_in : List ℕ → Option Prefix
prefix_in w = looked_up w prefixes

abbrev pub postfixes : List (Row Postfix)
postfixes =
    record { word = codes "[ ]"; value = postfix.Index } ∷
    record { word = codes "++"; value = postfix.Step Add } ∷
    record { word = codes "--"; value = postfix.Step Sub } ∷
    []

-- an operator behind its operand, with its own words
unfoldable pub postfix_in : List ℕ → Option Postfix
postfix_in w = looked_up w postfixes
