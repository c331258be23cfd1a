-- The words of the grammar, and the terminal that each is.
use Rattle.std.specs.Prelude.{ℕ, Bool, true, false, List, [], ◌∷◌, if◌then◌else◌, nat_eq, codes}
use lib.Pointwise.{pointwise}
use Rattle.cl_token.specs.declared.token.Kind.{Kind}
use Rattle.cl_token.specs.declared.token.Kind.TheVariants as kinds
use Rattle.cl_tree.specs.declared.terminal.Terminal.{Terminal}
use Rattle.cl_tree.specs.declared.terminal.Terminal.TheVariants as terminals

-- whether the word is one of these
abbrev pub is_among : List ℕ → List (List ℕ) → Bool
is_among w [] = false
is_among w (v ∷ vs) = if pointwise nat_eq w v then true else is_among w vs

-- Some words, and the terminal that each of them is.
pub record Row : Type 0 where
  pub words : List (List ℕ)
  pub terminal : Terminal

-- the terminal that a table gives a word, or else the last
abbrev pub looked_up : List ℕ → List Row → Terminal → Terminal
looked_up w [] other = other
looked_up w (r ∷ table) other = if is_among w r.words then r.terminal else looked_up w table other

-- the assignments
abbrev pub assignments : List Row
assignments =
    record { words = codes "=" ∷ []; terminal = terminals.Equals } ∷
    record {
      words = codes "+=" ∷ codes "-=" ∷ codes "*=" ∷ codes "/=" ∷ codes "%=" ∷ codes "<<=" ∷ codes ">>=" ∷
          codes "&=" ∷ codes "|=" ∷ codes "^=" ∷ [];
      terminal = terminals.Compound;
    } ∷
    []

unfoldable pub assignment_of : List ℕ → Terminal
assignment_of w = looked_up w assignments terminals.Other

-- the operators
abbrev pub operators : List Row
operators =
    record { words = codes "||" ∷ []; terminal = terminals.OrOr } ∷
    record { words = codes "&&" ∷ []; terminal = terminals.AndAnd } ∷
    record { words = codes "|" ∷ []; terminal = terminals.Bar } ∷
    record { words = codes "^" ∷ []; terminal = terminals.Caret } ∷
    record { words = codes "&" ∷ []; terminal = terminals.Ampersand } ∷
    record { words = codes "==" ∷ codes "!=" ∷ []; terminal = terminals.Equality } ∷
    record { words = codes "<" ∷ codes ">" ∷ codes "<=" ∷ codes ">=" ∷ []; terminal = terminals.Relation } ∷
    record { words = codes "<<" ∷ codes ">>" ∷ []; terminal = terminals.Shift } ∷
    record { words = codes "+" ∷ codes "-" ∷ []; terminal = terminals.PlusMinus } ∷
    record { words = codes "*" ∷ []; terminal = terminals.Star } ∷
    record { words = codes "/" ∷ codes "%" ∷ []; terminal = terminals.Slash } ∷
    record { words = codes "~" ∷ codes "!" ∷ []; terminal = terminals.Tilde } ∷
    record { words = codes "++" ∷ codes "--" ∷ []; terminal = terminals.Step } ∷
    []

unfoldable pub operator_of : List ℕ → Terminal
operator_of w = looked_up w operators (assignment_of w)

-- the brackets and the marks that separate
abbrev pub brackets : List Row
brackets =
    record { words = codes "{" ∷ []; terminal = terminals.OpenBrace } ∷
    record { words = codes "}" ∷ []; terminal = terminals.CloseBrace } ∷
    record { words = codes "(" ∷ []; terminal = terminals.Open } ∷
    record { words = codes ")" ∷ []; terminal = terminals.Close } ∷
    record { words = codes "[" ∷ []; terminal = terminals.OpenBracket } ∷
    record { words = codes "]" ∷ []; terminal = terminals.CloseBracket } ∷
    record { words = codes ";" ∷ []; terminal = terminals.Semicolon } ∷
    record { words = codes "," ∷ []; terminal = terminals.Comma } ∷
    record { words = codes ":" ∷ []; terminal = terminals.Colon } ∷
    record { words = codes "?" ∷ []; terminal = terminals.Question } ∷
    record { words = codes "." ∷ []; terminal = terminals.Point } ∷
    []

unfoldable pub bracket_of : List ℕ → Terminal
bracket_of w = looked_up w brackets (operator_of w)

-- the names of the vector types: a type and its number of components
abbrev pub vector_words : List Row
vector_words =
    record {
      words = codes "char2" ∷ codes "char3" ∷ codes "char4" ∷ codes "char8" ∷ codes "char16" ∷ codes "uchar2" ∷
          codes "uchar3" ∷ codes "uchar4" ∷ codes "uchar8" ∷ codes "uchar16" ∷ codes "short2" ∷ codes "short3" ∷
          codes "short4" ∷ codes "short8" ∷ codes "short16" ∷ codes "ushort2" ∷ codes "ushort3" ∷ codes "ushort4" ∷
          codes "ushort8" ∷ codes "ushort16" ∷ [];
      terminal = terminals.TypeWord;
    } ∷
    record {
      words = codes "int2" ∷ codes "int3" ∷ codes "int4" ∷ codes "int8" ∷ codes "int16" ∷ codes "uint2" ∷
          codes "uint3" ∷ codes "uint4" ∷ codes "uint8" ∷ codes "uint16" ∷ codes "long2" ∷ codes "long3" ∷
          codes "long4" ∷ codes "long8" ∷ codes "long16" ∷ codes "ulong2" ∷ codes "ulong3" ∷ codes "ulong4" ∷
          codes "ulong8" ∷ codes "ulong16" ∷ [];
      terminal = terminals.TypeWord;
    } ∷
    record {
      words = codes "float2" ∷ codes "float3" ∷ codes "float4" ∷ codes "float8" ∷ codes "float16" ∷
          codes "double2" ∷ codes "double3" ∷ codes "double4" ∷ codes "double8" ∷ codes "double16" ∷ codes "half2" ∷
          codes "half3" ∷ codes "half4" ∷ codes "half8" ∷ codes "half16" ∷ [];
      terminal = terminals.TypeWord;
    } ∷
    []

unfoldable pub vector_word_of : List ℕ → Terminal
vector_word_of w = looked_up w vector_words terminals.Name

-- the names of types that are outside the profile
abbrev pub outside_words : List Row
outside_words =
    record {
      words = codes "float" ∷ codes "double" ∷ codes "half" ∷ codes "ptrdiff_t" ∷ codes "intptr_t" ∷
          codes "uintptr_t" ∷ codes "event_t" ∷ codes "sampler_t" ∷ codes "image1d_t" ∷ codes "image1d_buffer_t" ∷
          codes "image1d_array_t" ∷ codes "image2d_t" ∷ codes "image2d_array_t" ∷ codes "image3d_t" ∷ [];
      terminal = terminals.TypeWord;
    } ∷
    []

unfoldable pub outside_word_of : List ℕ → Terminal
outside_word_of w = looked_up w outside_words (vector_word_of w)

-- the words of the base types
abbrev pub base_words : List Row
base_words =
    record { words = codes "signed" ∷ codes "unsigned" ∷ []; terminal = terminals.Sign } ∷
    record { words = codes "char" ∷ []; terminal = terminals.Char } ∷
    record { words = codes "int" ∷ []; terminal = terminals.Int } ∷
    record { words = codes "short" ∷ codes "long" ∷ []; terminal = terminals.Length } ∷
    record {
      words = codes "bool" ∷ codes "uchar" ∷ codes "ushort" ∷ codes "uint" ∷ codes "ulong" ∷ codes "size_t" ∷
          [];
      terminal = terminals.TypeWord;
    } ∷
    []

unfoldable pub base_word_of : List ℕ → Terminal
base_word_of w = looked_up w base_words (outside_word_of w)

-- the address spaces, and the words that stand nowhere in the grammar
abbrev pub space_words : List Row
space_words =
    record {
      words = codes "__global" ∷ codes "global" ∷ codes "__local" ∷ codes "local" ∷ codes "__constant" ∷
          codes "constant" ∷ codes "__private" ∷ codes "private" ∷ [];
      terminal = terminals.Space;
    } ∷
    record {
      words = codes "struct" ∷ codes "union" ∷ codes "enum" ∷ codes "typedef" ∷ codes "goto" ∷ [];
      terminal = terminals.Other;
    } ∷
    []

unfoldable pub space_word_of : List ℕ → Terminal
space_word_of w = looked_up w space_words (base_word_of w)

-- the words of functions and declarations
abbrev pub declaration_words : List Row
declaration_words =
    record { words = codes "true" ∷ codes "false" ∷ []; terminal = terminals.Truth } ∷
    record {
      words = codes "__kernel" ∷ codes "kernel" ∷ codes "inline" ∷ codes "static" ∷ [];
      terminal = terminals.HeadWord;
    } ∷
    record { words = codes "__attribute__" ∷ []; terminal = terminals.Attribute } ∷
    record {
      words = codes "reqd_work_group_size" ∷ codes "work_group_size_hint" ∷ [];
      terminal = terminals.AttributeName;
    } ∷
    record { words = codes "void" ∷ []; terminal = terminals.Void } ∷
    record { words = codes "const" ∷ codes "volatile" ∷ []; terminal = terminals.Qualifier } ∷
    record { words = codes "restrict" ∷ codes "__restrict" ∷ []; terminal = terminals.Restrict } ∷
    []

unfoldable pub declaration_word_of : List ℕ → Terminal
declaration_word_of w = looked_up w declaration_words (space_word_of w)

-- the words of statements
abbrev pub control_words : List Row
control_words =
    record { words = codes "if" ∷ []; terminal = terminals.If } ∷
    record { words = codes "else" ∷ []; terminal = terminals.Else } ∷
    record { words = codes "while" ∷ []; terminal = terminals.While } ∷
    record { words = codes "do" ∷ []; terminal = terminals.Do } ∷
    record { words = codes "for" ∷ []; terminal = terminals.For } ∷
    record { words = codes "switch" ∷ []; terminal = terminals.Switch } ∷
    record { words = codes "case" ∷ []; terminal = terminals.Case } ∷
    record { words = codes "default" ∷ []; terminal = terminals.Default } ∷
    record { words = codes "break" ∷ []; terminal = terminals.Break } ∷
    record { words = codes "continue" ∷ []; terminal = terminals.Continue } ∷
    record { words = codes "return" ∷ []; terminal = terminals.Return } ∷
    record { words = codes "sizeof" ∷ []; terminal = terminals.Sizeof } ∷
    []

unfoldable pub control_word_of : List ℕ → Terminal
control_word_of w = looked_up w control_words (declaration_word_of w)

-- the terminal that a token of that kind and spelling is
unfoldable pub terminal_of : Kind → List ℕ → Terminal
terminal_of kinds.Name w = control_word_of w
terminal_of kinds.Number w = terminals.Number
terminal_of kinds.Mark w = bracket_of w
terminal_of kinds.Hash w = terminals.Other
