-- The words of a sample.
use Rattle.std.proofs.Common.{◌≡◌, ℕ, suc, ◌+◌, ◌-◌, ◌*◌, ◌/◌, ◌%◌, ◌<◌, ◌++◌, List, [], ◌∷◌, length, take, get_or}
use Rattle.std.proofs.Common.{append_assoc, Some, inl, inr, subst, sym, ◌∙◌, ap, ap₂, arith}
use Rattle.std.specs.Prelude.{◌⊎◌, sum}
use Rattle.std.proofs.Math.Nat.{div-add-mod, mul-add-mod_self_left}
use Rattle.std.proofs.Math.Seq.{take-suc}
use Rattle.wg_outside.specs.Files.{FileMap}
use Rattle.wg_top.specs.declared.RunError.{RunError}
use Rattle.wg_top.specs.declared.RunError.TheVariants.{Failed, Absent, Memory}
use Rattle.wg_top.specs.declared.Summary.{Summary}
use Rattle.wg_top.specs.Causes.{Standing}
use Rattle.wg_top.specs.CompiledCauses.{Cause, IsDone}
use Rattle.wg_top.specs.Sample.{words_from, sample_files, sample_ask, IsSaved}
use Rattle.wg_top.specs.CompiledSample.{SampleCause, IsSample}
use Rattle.wg_compile.proofs.Sums.{sum_push}

-- one more word
pub one_word : (number k count : ℕ) (list new all : List ℕ) (word : ℕ) → k < count → new ≡ list ++ word ∷ [] →
    word ≡ (number + k * 2654435769) % 4294967296 → list ++ words_from number k (count - k) ≡ all →
    new ++ words_from number (k + 1) (count - (k + 1)) ≡ all
unfolding words_from
one_word number k count list new all word lt pushed is before =
    let next : k + 1 ≡ suc k = omega arith in
    let left : suc (count - (k + 1)) ≡ count - k = omega arith in
    ap₂ (λ (xs : List ℕ) (n : ℕ). xs ++ words_from number n (count - (k + 1))) pushed next
    ∙ (append_assoc list (word ∷ []) (words_from number (suc k) (count - (k + 1)))
    ∙ (ap (λ (v : ℕ). list ++ (v ∷ words_from number (suc k) (count - (k + 1)))) is
    ∙ (ap (λ (n : ℕ). list ++ words_from number k n) left ∙ before)))

-- all of them
pub all_words : (number k count : ℕ) (list all : List ℕ) → count - k ≡ 0 →
    list ++ words_from number k (count - k) ≡ all → list ++ [] ≡ all
unfolding words_from
all_words number k count list all none before = ap (λ (n : ℕ). list ++ words_from number k n) (sym none) ∙ before

-- a sum in words, and one more
pub sum_mod : (s word m : ℕ) → (s % m + word) % m ≡ (s + word) % m
sum_mod s word m =
    let split : m * (s / m) + (s % m + word) ≡ s + word = omega (arith, div-add-mod s m) in
    sym (mul-add-mod_self_left m (s / m) (s % m + word)) ∙ ap (λ n. n % m) split

pub more_sum : (xs : List ℕ) (k : ℕ) (x total m : ℕ) → k < length xs → x ≡ get_or xs k x →
    total ≡ sum (take k xs) % m → (total + x) % m ≡ sum (take (k + 1) xs) % m
more_sum xs k x total m lt is before =
    let next : k + 1 ≡ suc k = omega arith in
    ap (λ n. (n + x) % m) before ∙
    (sum_mod (sum (take k xs)) x m ∙
    ap (λ n. n % m) (sym (ap (λ n. sum (take n xs)) next ∙
    (ap sum (take-suc xs k x lt ∙ ap (λ y. take k xs ++ y ∷ []) (sym is)) ∙ sum_push (take k xs) x))))

-- ---- how its run ends

-- a run of the sample that is refused
pub sample_refused : (number : ℕ) (old new : Standing) (e r : RunError) → old.files ≡ Some (sample_files number) →
    Cause old new sample_ask e → (r ≡ e) ⊎ (r ≡ Memory) → SampleCause number r
sample_refused number old new e r told cause same = elim same [
  | inl is ↦ inr (record {
    old = old;
    new = new;
    files = told;
    cause = subst (λ (x : RunError). Cause old new sample_ask x) (sym is) cause;
  })
  | inr is ↦ inl is
]

-- a refusal for want of memory is no other
memory_apart : (e d : RunError) → e ≡ Memory → e ≡ d → (Memory ≡ d → ⊥) → ⊥
memory_apart e d is other apart = apart (sym is ∙ other)

-- want of memory is no fault of a store
pub memory_no_fault : (e : RunError) → e ≡ Memory → (e ≡ Failed → ⊥) × (e ≡ Absent → ⊥)
memory_no_fault e is = (
  λ h. memory_apart e Failed is h (λ x. (let never : ⊥ = cc x in never)),
  λ h. memory_apart e Absent is h (λ x. (let never : ⊥ = cc x in never)),
)

-- and one that is done
pub is_sample : (number : ℕ) (old new : FileMap) (summary : Summary) (sum : ℕ) → old ≡ sample_files number →
    IsDone (Some old) (Some new) sample_ask summary → IsSaved new sum → IsSample number sum
is_sample number old new summary sum same done saved =
    record {
      files = new;
      summary = summary;
      done = subst (λ (f : FileMap). IsDone (Some f) (Some new) sample_ask summary) same done;
      saved = saved;
    }
