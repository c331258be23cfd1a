-- What holds of keys, names and entries.
use Rattle.std.specs.Prelude.{◌≡◌, ℕ, List, length}
use Rattle.cl_prep.specs.declared.prep.Define.{Define}
use Rattle.wg_object.specs.Plain.{PlainObject}
use Rattle.wg_object.specs.Valid.{IsEight, AllFit}
use Rattle.wg_cache.specs.Keys.{key_bytes, key_name, IsCacheName}
use Rattle.wg_cache.specs.Entries.{IsEntryOf}

-- the numbers given for names are of 64 bits
abbrev pub AreDefines : List Define → Type 0
AreDefines defines = AllFit (λ (d : Define). IsEight d.value) defines

-- two keys are of one source, one list of numbers for names, one kernel and as many lanes
pub record IsSameKey (source other_source : List ℕ) (defines other_defines : List Define) (kernel other_kernel : List ℕ)
    (lanes other_lanes : ℕ) : Type 0 where
  pub source_is : source ≡ other_source
  pub defines_are : defines ≡ other_defines
  pub kernel_is : kernel ≡ other_kernel
  pub lanes_are : lanes ≡ other_lanes

-- bytes that 64 bits count are the key of one source, list of numbers for names, kernel and number of lanes at most
abbrev pub KeyLaw : Type 0
KeyLaw =
    (source other_source : List ℕ) (defines other_defines : List Define) (kernel other_kernel : List ℕ)
    (lanes other_lanes : ℕ) → AreDefines defines → AreDefines other_defines
    → IsEight (length (key_bytes source defines kernel lanes))
    → key_bytes source defines kernel lanes ≡ key_bytes other_source other_defines other_kernel other_lanes
    → IsSameKey source other_source defines other_defines kernel other_kernel lanes other_lanes

-- the name of each key begins as the names of cache files do
abbrev pub NameLaw : Type 0
NameLaw = (key : List ℕ) → IsCacheName (key_name key)

-- bytes that 64 bits count are the entry of one key at most, with one object
pub record IsSameEntry (key other : List ℕ) (o p : PlainObject) : Type 0 where
  pub key_is : key ≡ other
  pub object_is : o ≡ p

abbrev pub EntryLaw : Type 0
EntryLaw =
    (bytes key other : List ℕ) (o p : PlainObject) → IsEight (length bytes) → IsEntryOf bytes key o
    → IsEntryOf bytes other p → IsSameEntry key other o p
