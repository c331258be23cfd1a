-- The launch that the program makes itself.
use Rattle.std.specs.Prelude.{◌≡◌, ℕ, zero, suc, ◌+◌, ◌*◌, ◌%◌, ◌++◌, List, [], ◌∷◌, Some, None, sum, codes}
use Rattle.wg_outside.specs.Files.{FileMap, file_in}
use Rattle.buffer_io.specs.Words.{words_of, bytes_of_words}
use Rattle.command_words.specs.Command.{Files}

-- how each source begins: a group's words go to local memory
abbrev pub sample_opening : List ℕ
sample_opening =
    codes "__kernel void sample(__global uint *a) {\n" ++
    codes "  __local uint t[256];\n" ++
    codes "  int l = get_local_id(0);\n" ++
    codes "  t[l] = a[get_global_id(0)];\n" ++
    codes "  barrier(CLK_LOCAL_MEM_FENCE);\n"

-- each group's words in reverse
abbrev pub reversed_source : List ℕ
reversed_source =
    sample_opening ++
    codes "  a[get_global_id(0)] = t[255 - l];\n" ++
    codes "}\n"

-- each group's running sums
abbrev pub summed_source : List ℕ
summed_source =
    sample_opening ++
    codes "  int d;\n" ++
    codes "  uint v;\n" ++
    codes "  for (d = 1; d < 256; d *= 2) {\n" ++
    codes "    v = t[l];\n" ++
    codes "    if (l >= d) v += t[l - d];\n" ++
    codes "    barrier(CLK_LOCAL_MEM_FENCE);\n" ++
    codes "    t[l] = v;\n" ++
    codes "    barrier(CLK_LOCAL_MEM_FENCE);\n" ++
    codes "  }\n" ++
    codes "  a[get_global_id(0)] = t[l];\n" ++
    codes "}\n"

-- the greatest of each group's words
abbrev pub greatest_source : List ℕ
greatest_source =
    sample_opening ++
    codes "  for (int d = 128; d > 0; d /= 2) {\n" ++
    codes "    if (l < d) t[l] = max(t[l], t[l + d]);\n" ++
    codes "    barrier(CLK_LOCAL_MEM_FENCE);\n" ++
    codes "  }\n" ++
    codes "  a[get_global_id(0)] = t[0];\n" ++
    codes "}\n"

-- the launch file of the sample
abbrev pub sample_launch : List ℕ
sample_launch =
    codes "format = 1\n" ++
    codes "kernel = \"sample\"\n" ++
    codes "global = 65536\n" ++
    codes "local = 256\n" ++
    codes "lanes = 8\n" ++
    codes "[[buffer]]\n" ++
    codes "name = \"a\"\n" ++
    codes "bytes = 262144\n" ++
    codes "load = \"a.bin\"\n" ++
    codes "save = \"a.out\"\n" ++
    codes "[[arg]]\n" ++
    codes "buffer = \"a\"\n"

-- the source of the sample with that number
abbrev pub source_at : ℕ → List ℕ
source_at zero = reversed_source
source_at (suc zero) = summed_source
source_at (suc (suc n)) = greatest_source

-- so many words of a sample, from the one with this number on
unfoldable pub words_from : (number k count : ℕ) → List ℕ
words_from number k zero = []
words_from number k (suc count) = (number + k * 2654435769) % 4294967296 ∷ words_from number (suc k) count

-- the files of a sample: the source, the launch file and the words with which its buffer starts
abbrev pub sample_files : ℕ → FileMap
sample_files number =
    (codes "sample.cl", source_at (number % 3)) ∷ (codes "sample.toml", sample_launch) ∷ (
      codes "a.bin",
      bytes_of_words (words_from number 0 65536),
    ) ∷ []

-- what its run asks for
abbrev pub sample_ask : Files
sample_ask = record { source = codes "sample.cl"; launch = codes "sample.toml"; lanes = None; turns = None }

-- the sum of the words that bytes spell, as a word
abbrev pub words_sum : List ℕ → ℕ
words_sum bytes = sum (words_of bytes) % 4294967296

-- a file `a.out` is among the files, and its words have that sum
pub record IsSaved (files : FileMap) (sum : ℕ) : Type 0 where
  pub bytes : List ℕ
  pub there : file_in files (codes "a.out") ≡ Some bytes
  pub sum_is : sum ≡ words_sum bytes
