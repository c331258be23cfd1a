-- A file map after a push, and a pool after an append.
use Rattle.std.proofs.Common.{◌≡◌, ◌≢◌, ℕ, ◌+◌, ◌<◌, ◌≤◌, Bool, true, false, cond, List, [], ◌∷◌, ◌++◌, length, take}
use Rattle.std.proofs.Common.{drop, get_or, Option, Some, option_map, suc, refl, sym, ◌∙◌, ap, append_assoc, inl, inr}
use Rattle.std.proofs.Common.{arith}
use Rattle.std.proofs.lemmas.Slice.Eq.{bytes_eq-Decides}
use Rattle.std.proofs.lemmas.List.{drop-append-le, take-append-le, length-drop, get_or_append_left, get_or_push}
use Rattle.std.proofs.lemmas.List.{length_push, take_more}
use Rattle.std.proofs.lemmas.Bool.{cases_lt, false_from_ne_true}
use Rattle.std.proofs.Math.Seq.{drop-append_seam, take-append_seam, drop-append-add, take-length}
use Rattle.std.specs.Prelude.{bytes_eq}
use Rattle.wg_outside.specs.declared.pool.Span.{Span}
use Rattle.wg_outside.specs.Files.{FileMap, file_in, or_else_file}
use Rattle.wg_outside.specs.Spans.{span_end, file_at, files_at, IsInPool}

-- a test that fails looks on
or_else_push : (g f : List ℕ × List ℕ) (n : List ℕ) (b : Bool) (found : Option (List ℕ)) →
    or_else_file g n (cond b (Some f.1) found) ≡ cond b (Some f.1) (or_else_file g n found)
or_else_push g f n b found = elim b as (λ v. or_else_file g n (cond v (Some f.1) found) ≡
    cond v (Some f.1) (or_else_file g n found)) [ true ↦ refl | false ↦ refl ]

-- the last file of a name counts
pub file_in-push : (fs : FileMap) (f : List ℕ × List ℕ) (n : List ℕ) →
    file_in (fs ++ f ∷ []) n ≡ cond (bytes_eq f.0 n) (Some f.1) (file_in fs n)
file_in-push [] f n = refl
file_in-push (g ∷ gs) f n =
    ap (or_else_file g n) (file_in-push gs f n) ∙ or_else_push g f n (bytes_eq f.0 n) (file_in gs n)

-- a take of a drop that ends within the first list
take-drop-append : {A : Type 0} (n k : ℕ) (xs ys : List A) → k + n ≤ length xs →
    take n (drop k (xs ++ ys)) ≡ take n (drop k xs)
take-drop-append n k xs ys h =
    ap (take n) (drop-append-le k xs ys (omega arith)) ∙ take-append-le n (drop k xs) ys (rw length-drop (omega arith))

-- more bytes in the pool leave a file of it
file_at-append : (pool more : List ℕ) (s : Span) → span_end s ≤ length pool → file_at (pool ++ more) s ≡ file_at pool s
file_at-append pool more s h =
    let name_same : take s.name (drop s.start (pool ++ more)) ≡ take s.name (drop s.start pool) =
    take-drop-append s.name s.start pool more (omega arith) in
    let bytes_same : take s.size (drop (s.start + s.name) (pool ++ more)) ≡
    take s.size (drop (s.start + s.name) pool) =
    take-drop-append s.size (s.start + s.name) pool more (omega arith) in
    cc

-- more bytes in the pool leave its files
pub files_at-append : (pool more : List ℕ) (spans : List Span) → IsInPool pool spans →
    files_at (pool ++ more) spans ≡ files_at pool spans
files_at-append pool more [] h = refl
files_at-append pool more (s ∷ spans) h =
    let first : file_at (pool ++ more) s ≡ file_at pool s = file_at-append pool more s (h 0 s (omega arith)) in
    let others : files_at (pool ++ more) spans ≡ files_at pool spans =
    files_at-append pool more spans (λ k d lt. h (suc k) d (omega arith)) in
    cc

-- one more span
pub files_at-push : (pool : List ℕ) (spans : List Span) (s : Span) →
    files_at pool (spans ++ s ∷ []) ≡ files_at pool spans ++ file_at pool s ∷ []
files_at-push pool [] s = refl
files_at-push pool (x ∷ xs) s = ap (λ fs. file_at pool x ∷ fs) (files_at-push pool xs s)

-- what stands behind the pool is the file
file_at-behind : (pool name bytes : List ℕ) →
    file_at (pool ++ (name ++ bytes)) (record { start = length pool; name = length name; size = length bytes }) ≡
    (name, bytes)
file_at-behind pool name bytes =
    let at_name : take (length name) (drop (length pool) (pool ++ (name ++ bytes))) ≡ name =
    ap (take (length name)) (drop-append_seam pool (name ++ bytes)) ∙ take-append_seam name bytes in
    let at_bytes : take (length bytes) (drop (length pool + length name) (pool ++ (name ++ bytes))) ≡ bytes =
    ap (take (length bytes)) (drop-append-add pool (name ++ bytes) (length name) ∙ drop-append_seam name bytes) ∙
    take-length bytes in
    cc

-- the file behind the pool
pub files_at-kept : (pool name bytes : List ℕ) (spans : List Span) → IsInPool pool spans →
    files_at ((pool ++ name) ++ bytes) (spans ++ (record {
      start = length pool;
      name = length name;
      size = length bytes;
    }) ∷ []) ≡ files_at pool spans ++ (name, bytes) ∷ []
files_at-kept pool name bytes spans h =
    let s : Span = record { start = length pool; name = length name; size = length bytes } in
    rw append_assoc (files_at-push (pool ++ (name ++ bytes)) spans s ∙
    (ap (λ fs. fs ++ file_at (pool ++ (name ++ bytes)) s ∷ []) (files_at-append pool (name ++ bytes) spans h) ∙
    ap (λ f. files_at pool spans ++ f ∷ []) (file_at-behind pool name bytes)))

-- the spans stay within a longer pool, with one more
pub IsInPool-push : (pool longer : List ℕ) (spans : List Span) (s : Span) → IsInPool pool spans →
    length pool ≤ length longer → span_end s ≤ length longer → IsInPool longer (spans ++ s ∷ [])
IsInPool-push pool longer spans s h more last k d lt = elim (cases_lt k (length spans)) [
  | inl before ↦ let same : get_or (spans ++ s ∷ []) k d ≡ get_or spans k d =
      get_or_append_left spans (s ∷ []) d k before in let within : span_end (get_or spans k d) ≤ length pool =
      h k d before in rw same (omega arith)
  | inr behind ↦ let here : length spans ≡ k =
      omega (arith, length_push spans s) in rw (get_or_push spans s d k here) last
]

-- a span whose name is the one that is sought
pub find_hit : (pool : List ℕ) (spans : List Span) (i : ℕ) (d : Span) (name : List ℕ) → i < length spans →
    bytes_eq (file_at pool (get_or spans i d)).0 name ≡ true →
    Some ((file_at pool (get_or spans i d)).1) ≡ file_in (files_at pool (take (i + 1) spans)) name
find_hit pool spans i d name lt e =
    let s : Span = get_or spans i d in
    sym (ap (λ ss. file_in (files_at pool ss) name) (take_more spans i d lt) ∙
    (ap (λ fs. file_in fs name) (files_at-push pool (take i spans) s) ∙
    (file_in-push (files_at pool (take i spans)) (file_at pool s) name ∙
    ap (λ b. cond b (Some ((file_at pool s).1)) (file_in (files_at pool (take i spans)) name)) e)))

-- a span with another name
pub find_miss : (pool : List ℕ) (spans : List Span) (i : ℕ) (d : Span) (name : List ℕ) → i < length spans →
    bytes_eq (file_at pool (get_or spans i d)).0 name ≡ false → file_in (files_at pool (take (i + 1) spans)) name ≡
    file_in (files_at pool (take i spans)) name
find_miss pool spans i d name lt e =
    let s : Span = get_or spans i d in
    ap (λ ss. file_in (files_at pool ss) name) (take_more spans i d lt) ∙
    (ap (λ fs. file_in fs name) (files_at-push pool (take i spans) s) ∙
    (file_in-push (files_at pool (take i spans)) (file_at pool s) name ∙
    ap (λ b. cond b (Some ((file_at pool s).1)) (file_in (files_at pool (take i spans)) name)) e))

-- a saved file is found
pub file_in-saved : (fs : FileMap) (name bytes : List ℕ) → file_in (fs ++ (name, bytes) ∷ []) name ≡ Some bytes
file_in-saved fs name bytes =
    file_in-push fs (name, bytes) name ∙
    ap (λ b. cond b (Some bytes) (file_in fs name)) ((bytes_eq-Decides name name).1 refl)

-- the test of two names that differ
not_same : (name other : List ℕ) → other ≢ name → bytes_eq name other ≡ false
not_same name other ne =
    false_from_ne_true (bytes_eq name other) (λ yes. ne (sym ((bytes_eq-Decides name other).0 yes)))

-- another name is found as before
pub file_in-other : (fs : FileMap) (name bytes other : List ℕ) → other ≢ name →
    file_in (fs ++ (name, bytes) ∷ []) other ≡ file_in fs other
file_in-other fs name bytes other ne =
    file_in-push fs (name, bytes) other ∙ ap (λ b. cond b (Some bytes) (file_in fs other)) (not_same name other ne)

-- the same, for the map after a save
pub file_in-after : (new old : FileMap) (name bytes : List ℕ) → new ≡ old ++ (name, bytes) ∷ [] →
    file_in new name ≡ Some bytes
file_in-after new old name bytes e = ap (λ fs. file_in fs name) e ∙ file_in-saved old name bytes

pub file_in-others : (new old : FileMap) (name bytes : List ℕ) → new ≡ old ++ (name, bytes) ∷ [] → (other : List ℕ) →
    other ≢ name → file_in new other ≡ file_in old other
file_in-others new old name bytes e other ne = ap (λ fs. file_in fs other) e ∙ file_in-other old name bytes other ne

-- the same, for a pool that was extended twice
pub files_at-after : (pool name bytes named full : List ℕ) (spans more : List Span) → IsInPool pool spans →
    named ≡ pool ++ name → full ≡ named ++ bytes →
    more ≡ spans ++ (record { start = length pool; name = length name; size = length bytes }) ∷ [] →
    files_at full more ≡ files_at pool spans ++ (name, bytes) ∷ []
files_at-after pool name bytes named full spans more h e1 e2 e3 =
    let whole : full ≡ (pool ++ name) ++ bytes = e2 ∙ ap (λ xs. xs ++ bytes) e1 in
    ap (λ xs. files_at xs more) whole ∙
    (ap (files_at ((pool ++ name) ++ bytes)) e3 ∙ files_at-kept pool name bytes spans h)

-- the step of a search at a span with the name
pub find_step-hit : (pool : List ℕ) (spans items : List Span) (i : ℕ) (d : Span) (name held named : List ℕ)
    (found : Option Span) → found ≡ Some (get_or items i d) → items ≡ spans → i < length spans →
    held ≡ (file_at pool (get_or items i d)).0 → named ≡ name → true ≡ bytes_eq held named →
    option_map (λ s. (file_at pool s).1) found ≡ file_in (files_at pool (take (i + 1) spans)) name
find_step-hit pool spans items i d name held named found is same lt at_name at_held e =
    let here : found ≡ Some (get_or spans i d) = is ∙ ap (λ xs. Some (get_or xs i d)) same in
    let held_is : held ≡ (file_at pool (get_or spans i d)).0 =
    at_name ∙ ap (λ xs. (file_at pool (get_or xs i d)).0) same in
    let test : bytes_eq (file_at pool (get_or spans i d)).0 name ≡ true =
    ap (λ xs. bytes_eq xs name) (sym held_is) ∙ (ap (bytes_eq held) (sym at_held) ∙ sym e) in
    ap (option_map (λ s. (file_at pool s).1)) here ∙ find_hit pool spans i d name lt test

-- the step at another span
pub find_step-miss : (pool : List ℕ) (spans items : List Span) (i : ℕ) (d : Span) (name held named : List ℕ)
    (before found : Option Span) → found ≡ before → items ≡ spans → i < length spans →
    held ≡ (file_at pool (get_or items i d)).0 → named ≡ name → false ≡ bytes_eq held named →
    option_map (λ s. (file_at pool s).1) before ≡ file_in (files_at pool (take i spans)) name →
    option_map (λ s. (file_at pool s).1) found ≡ file_in (files_at pool (take (i + 1) spans)) name
find_step-miss pool spans items i d name held named before found is same lt at_name at_held e was =
    let held_is : held ≡ (file_at pool (get_or spans i d)).0 =
    at_name ∙ ap (λ xs. (file_at pool (get_or xs i d)).0) same in
    let test : bytes_eq (file_at pool (get_or spans i d)).0 name ≡ false =
    ap (λ xs. bytes_eq xs name) (sym held_is) ∙ (ap (bytes_eq held) (sym at_held) ∙ sym e) in
    ap (option_map (λ s. (file_at pool s).1)) is ∙ (was ∙ sym (find_miss pool spans i d name lt test))
