-- The key of a compiled kernel, and the name of its cache file.
use Rattle.std.specs.Prelude.{◌≡◌, ℕ, List, ◌∷◌, ◌++◌, codes}
use Rattle.sha2.specs.Sha256.{sha256}
use Rattle.hex.specs.Hex.{encode_lower}
use Rattle.cl_prep.specs.declared.prep.Define.{Define}
use Rattle.wg_object.specs.Text.{eight, word_text, list_text}

-- a number given for a name
abbrev pub define_text : Define → List ℕ
define_text d = word_text d.name ++ eight d.value

-- the source, the kernel, the lanes, and the numbers given for names
abbrev pub key_bytes : (source : List ℕ) → List Define → (kernel : List ℕ) → (lanes : ℕ) → List ℕ
key_bytes source defines kernel lanes =
    word_text source ++ (word_text kernel ++ (lanes ∷ list_text define_text defines))

-- what each name of a cache file begins with
abbrev pub cache_prefix : List ℕ
cache_prefix = codes "wgcc-cache-"

-- the name of the file of a key
unfoldable pub key_name : List ℕ → List ℕ
key_name key = cache_prefix ++ encode_lower (sha256 key)

-- a name that begins as the names of cache files do
abbrev pub IsCacheName : List ℕ → Type 0
IsCacheName name = (rest : List ℕ) × (name ≡ cache_prefix ++ rest)
