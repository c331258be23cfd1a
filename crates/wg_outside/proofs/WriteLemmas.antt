-- One more write behind those before it.
use Rattle.std.proofs.Common.{◌≡◌, ℕ, ◌+◌, ◌-◌, ◌≤◌, List, ◌++◌, length, take, drop, append_assoc, Option, Some, None}
use Rattle.std.proofs.Common.{sym, ◌∙◌, ap, subst, arith}
use Rattle.std.specs.Io.KnownBytes.{Appends, Keeps}
use Rattle.std.proofs.lemmas.List.{drop-drop, length-drop}
use Rattle.std.proofs.Math.Seq.{take-add}

Appends-more : (old mid new : Option (List ℕ)) (xs ys : List ℕ) → Appends old mid xs → Appends mid new ys →
    Appends old new (xs ++ ys)
Appends-more None mid new xs ys a b = tt
Appends-more (Some o) None new xs ys a b = absurd a
Appends-more (Some o) (Some m) None xs ys a b = absurd b
Appends-more (Some o) (Some m) (Some n) xs ys a b = b ∙ (ap (λ bs. bs ++ ys) a ∙ append_assoc o xs ys)

Appends-kept : (old mid new : Option (List ℕ)) (xs : List ℕ) → Appends old mid xs → Keeps mid new → Appends old new xs
Appends-kept None mid new xs a k = tt
Appends-kept (Some o) None new xs a k = absurd a
Appends-kept (Some o) (Some m) None xs a k = absurd k
Appends-kept (Some o) (Some m) (Some n) xs a k = k ∙ a

-- what was written of the bytes, and what is left of them
pub record Wrote (old now : Option (List ℕ)) (bytes rest : List ℕ) : Type 0 where
  pub wrote : Appends old now (take (length bytes - length rest) bytes)
  pub left : rest ≡ drop (length bytes - length rest) bytes

pub wrote_more : (old mid new : Option (List ℕ)) (bytes rest after : List ℕ) (n : ℕ) → Wrote old mid bytes rest →
    n ≤ length rest → Appends mid new (take n rest) → after ≡ drop n rest → Wrote old new bytes after
wrote_more old mid new bytes rest after n so_far le more is =
    let k : ℕ = length bytes - length rest in
    let long_rest : length rest ≡ length bytes - k = ap length so_far.left ∙ length-drop k bytes in
    let long_after : length after ≡ length rest - n = ap length is ∙ length-drop n rest in
    let at : length bytes - length after ≡ k + n = omega arith in
    let part : take (length bytes - length after) bytes ≡ take k bytes ++ take n rest =
    ap (λ m. take m bytes) at ∙ (take-add k n bytes ∙ ap (λ l. take k bytes ++ take n l) (sym so_far.left)) in
    record {
      wrote = subst (λ (l : List ℕ). Appends old new l) (sym part)
          (Appends-more old mid new (take k bytes) (take n rest) so_far.wrote more);
      left = is ∙ (ap (drop n) so_far.left ∙ (drop-drop n k bytes ∙ ap (λ m. drop m bytes) (sym at)));
    }

pub wrote_none : (old mid new : Option (List ℕ)) (bytes rest after : List ℕ) → Wrote old mid bytes rest →
    Keeps mid new → after ≡ rest → Wrote old new bytes after
wrote_none old mid new bytes rest after so_far keeps is =
    subst (λ (l : List ℕ). Wrote old new bytes l) (sym is)
    (record {
      wrote = Appends-kept old mid new (take (length bytes - length rest) bytes) so_far.wrote keeps;
      left = so_far.left;
    })
