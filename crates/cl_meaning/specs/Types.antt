-- Types and address spaces (OpenCL 1.2, sections 6.1, 6.5 and 6.6; C99, section 6.7.2).
use Rattle.std.specs.Prelude.{ℕ, List, [], ◌∷◌, Option, Some, None, not, ◌||◌, if◌then◌else◌, nat_eq, codes}
use Rattle.std.specs.Prelude.{Bool as Test, true, false}
use Rattle.std.specs.List.{filter, list_any}
use lib.Pointwise.{pointwise}
use Rattle.wg_num.specs.declared.types.IntType.TheVariants.{Bool, Char, Uchar, Short, Ushort, Int, Uint, Long, Ulong}
use Rattle.cl_model.specs.declared.program.Space.{Space}
use Rattle.cl_model.specs.declared.program.Space.TheVariants.{Global, Constant, Local, Private}
use Rattle.cl_tree.specs.declared.tree.Form.TheVariants as forms
use Rattle.cl_tree.specs.Syntax.{Syntax, node, Forest, none, more}
use Rattle.cl_tree.specs.Words.{is_among, outside_words, vector_words}
use Rattle.cl_tree.specs.Words as words
use Rattle.cl_meaning.specs.declared.types.Base.{Base}
use Rattle.cl_meaning.specs.declared.types.Base.TheVariants.{Integer, Outside}
use Rattle.cl_meaning.specs.declared.types.Declared.{Declared}
use Rattle.cl_meaning.specs.OwnWords.{pieces, Row, first_row, looked_up}

abbrev pub is_qualifier : List ℕ → Test
is_qualifier p = is_among p (codes "const" ∷ codes "volatile" ∷ [])

-- the pieces that name the type
abbrev pub bare : List ℕ → List (List ℕ)
bare w = filter (λ p. not (is_qualifier p)) (pieces w)

-- the word is this text, qualifiers aside
abbrev pub spells : List ℕ → List ℕ → Test
spells w text = pointwise (pointwise nat_eq) (bare w) (pieces text)

-- the spellings of the integer types
abbrev pub integers : List (Row Base)
integers =
    record { word = codes "bool"; value = Integer Bool false } ∷
    record { word = codes "char"; value = Integer Char false } ∷
    record { word = codes "signed char"; value = Integer Char false } ∷
    record { word = codes "uchar"; value = Integer Uchar false } ∷
    record { word = codes "unsigned char"; value = Integer Uchar false } ∷
    record { word = codes "short"; value = Integer Short false } ∷
    record { word = codes "short int"; value = Integer Short false } ∷
    record { word = codes "signed short"; value = Integer Short false } ∷
    record { word = codes "signed short int"; value = Integer Short false } ∷
    record { word = codes "ushort"; value = Integer Ushort false } ∷
    record { word = codes "unsigned short"; value = Integer Ushort false } ∷
    record { word = codes "unsigned short int"; value = Integer Ushort false } ∷
    record { word = codes "int"; value = Integer Int false } ∷
    record { word = codes "signed int"; value = Integer Int false } ∷
    record { word = codes "signed"; value = Integer Int false } ∷
    record { word = codes "uint"; value = Integer Uint false } ∷
    record { word = codes "unsigned int"; value = Integer Uint false } ∷
    record { word = codes "unsigned"; value = Integer Uint false } ∷
    record { word = codes "long"; value = Integer Long false } ∷
    record { word = codes "long int"; value = Integer Long false } ∷
    record { word = codes "signed long"; value = Integer Long false } ∷
    record { word = codes "signed long int"; value = Integer Long false } ∷
    record { word = codes "ulong"; value = Integer Ulong false } ∷
    record { word = codes "unsigned long"; value = Integer Ulong false } ∷
    record { word = codes "unsigned long int"; value = Integer Ulong false } ∷
    record { word = codes "size_t"; value = Integer Ulong true } ∷
    []

-- whether the word names a type outside the profile: one of floating point, a vector, an image, an event or the like
unfoldable pub names_outside : List ℕ → Test
names_outside w = list_any (λ (r : words.Row). list_any (spells w) r.words) outside_words ||
    list_any (λ (r : words.Row). list_any (spells w) r.words) vector_words

-- the base type of a type's word
unfoldable pub base_in : List ℕ → Option Base
base_in w = if names_outside w then Some Outside else first_row (spells w) integers

-- whether a type or a star is `const`
abbrev pub is_const : List ℕ → Test
is_const w = is_among (codes "const") (pieces w)

abbrev pub spaces : List (Row Space)
spaces =
    record { word = codes "__global"; value = Global } ∷
    record { word = codes "global"; value = Global } ∷
    record { word = codes "__constant"; value = Constant } ∷
    record { word = codes "constant"; value = Constant } ∷
    record { word = codes "__local"; value = Local } ∷
    record { word = codes "local"; value = Local } ∷
    record { word = codes "__private"; value = Private } ∷
    record { word = codes "private"; value = Private } ∷
    []

-- the space of an address space's word
unfoldable pub space_in : List ℕ → Option Space
space_in w = looked_up w spaces

-- the space of the parts of a type: one at most, its address space
abbrev pub space_among : Forest → Option Space
space_among none = None
space_among (more (node forms.SpaceNode word first last parts) others) = space_in word
space_among (more _ others) = None

abbrev pub declared_as : Option Base → Test → Option Space → Option Declared
declared_as None constant space = None
declared_as (Some Outside) constant space = None
declared_as (Some (Integer of size)) constant space =
    Some (record { of = of; size = size; constant = constant; space = space })

-- what a type of the profile declares
abbrev pub declared_in : Syntax → Option Declared
declared_in (node forms.TypeNode word first last parts) = declared_as (base_in word) (is_const word) (space_among parts)
declared_in _ = None

-- whether a base is outside the profile
abbrev pub is_outside_base : Option Base → Test
is_outside_base (Some Outside) = true
is_outside_base _ = false

-- whether it is a type outside the profile
abbrev pub is_outside : Syntax → Test
is_outside (node forms.TypeNode word first last parts) = is_outside_base (base_in word)
is_outside _ = false
