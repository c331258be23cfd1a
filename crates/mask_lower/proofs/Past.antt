-- The registers that are free behind atoms.
use Rattle.std.proofs.Common.{◌≡◌, List, [], ◌∷◌, ◌++◌, refl, sym, ap, ◌∙◌}
use Rattle.kir.specs.declared.line.Atom.{Atom}
use Rattle.mask_lower.specs.declared.registers.Free.{Free}
use Rattle.mask_lower.specs.Registers.{past, past_atom}

pub past-append : (next : Free) (xs ys : List Atom) → past next (xs ++ ys) ≡ past (past next xs) ys
past-append next [] ys = refl
past-append next (x ∷ xs) ys = past-append (past_atom next x) xs ys

-- an atom and two lists of them; two lists and an atom
pub past_one_two : (next n1 n2 n3 : Free) (x : Atom) (xs ys rest : List Atom) → n1 ≡ past_atom next x →
    n2 ≡ past n1 xs → n3 ≡ past n2 ys → past next (x ∷ (xs ++ (ys ++ rest))) ≡ past n3 rest
past_one_two next n1 n2 n3 x xs ys rest e1 e2 e3 =
    past-append (past_atom next x) xs (ys ++ rest) ∙ past-append (past (past_atom next x) xs) ys rest
    ∙ sym (ap (λ n. past n rest) (e3 ∙ ap (λ n. past n ys) (e2 ∙ ap (λ n. past n xs) e1)))

pub past_two_one : (next n1 n2 n3 : Free) (x : Atom) (xs ys rest : List Atom) → n1 ≡ past next xs → n2 ≡ past n1 ys →
    n3 ≡ past_atom n2 x → past next (xs ++ (ys ++ (x ∷ rest))) ≡ past n3 rest
past_two_one next n1 n2 n3 x xs ys rest e1 e2 e3 =
    past-append next xs (ys ++ (x ∷ rest)) ∙ past-append (past next xs) ys (x ∷ rest)
    ∙ sym (ap (λ n. past n rest) (e3 ∙ ap (λ n. past_atom n x) (e2 ∙ ap (λ n. past n ys) e1)))
