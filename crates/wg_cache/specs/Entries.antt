-- The entry of a key: its bytes, and whether files have it.
use Rattle.std.specs.Prelude.{◌≡◌, ℕ, List, ◌++◌, Option, Some, IfSome}
use Rattle.wg_outside.specs.Files.{FileMap, told_file}
use Rattle.wg_object.specs.Text.{word_text, object_text}
use Rattle.wg_object.specs.Plain.{PlainObject}
use Rattle.wg_object.specs.Valid.{IsObject}

-- the key behind its length, and the text of the object
abbrev pub entry_bytes : (key : List ℕ) → PlainObject → List ℕ
entry_bytes key o = word_text key ++ object_text o

-- the bytes are the entry of that very key with this object
pub record IsEntryOf (bytes key : List ℕ) (o : PlainObject) : Type 0 where
  pub object : IsObject o
  pub is : bytes ≡ entry_bytes key o

-- where files are told, the name has an entry of that very key, with this object
abbrev pub HasEntry : Option FileMap → (name key : List ℕ) → PlainObject → Type 0
HasEntry files name key o =
    IfSome (told_file files name) (λ found. (bytes : List ℕ) × (found ≡ Some bytes) × IsEntryOf bytes key o)

-- where files are told, the name has no entry of that very key
abbrev pub LacksEntry : Option FileMap → (name key : List ℕ) → Type 0
LacksEntry files name key =
    IfSome (told_file files name)
    (λ found. (bytes : List ℕ) (o : PlainObject) → found ≡ Some bytes → IsEntryOf bytes key o → ⊥)

-- where files are told, these are the bytes of that name
abbrev pub IsFile : Option FileMap → (name bytes : List ℕ) → Type 0
IsFile files name bytes = IfSome (told_file files name) (λ found. found ≡ Some bytes)
