-- The parts of a whole kernel.
use Rattle.std.proofs.Common.{◌≡◌, ◌∷◌, List, [], ℕ, zero, suc, ◌≤◌, min, length, take, map, refl, ap, sym, ◌∙◌}
use Rattle.std.proofs.Common.{arith}
use Rattle.std.proofs.lemmas.List.{take-map, take_min}
use Rattle.wg_num.specs.declared.types.Place.{Place}
use Rattle.cl_model.specs.declared.program.VarKind.{VarKind}
use Rattle.cl_model.specs.declared.program.Var.{Var}
use Rattle.cl_model.specs.Tree.{Table}
use Rattle.kir.specs.Tree.{Kernel, Lines}
use Rattle.kir_lower.specs.Made.{Made}

abbrev kernel_from : List VarKind → Made → List Table → Lines → List Place → Kernel
kernel_from params made tables body sites =
    record { params = params; cells = made.cells; arrays = made.arrays; tables = tables; body = body; sites = sites }

-- kernels of equal parts
pub kernel_parts : (kinds other_kinds : List VarKind) (made other_made : Made) (tables other_tables : List Table)
    (body other_body : Lines) (sites other_sites : List Place)
    → kinds ≡ other_kinds → made ≡ other_made → tables ≡ other_tables → body ≡ other_body → sites ≡ other_sites
    → kernel_from kinds made tables body sites ≡ kernel_from other_kinds other_made other_tables other_body other_sites
kernel_parts kinds other_kinds made other_made tables other_tables body other_body sites other_sites a b c d e =
    ap (λ z. kernel_from z made tables body sites) a ∙ ap (λ z. kernel_from other_kinds z tables body sites) b ∙
    ap (λ z. kernel_from other_kinds other_made z body sites) c
    ∙ ap (λ z. kernel_from other_kinds other_made other_tables z sites) d ∙
    ap (λ z. kernel_from other_kinds other_made other_tables other_body z) e

take_past : {A : Type 0} (n : ℕ) (list : List A) → length list ≤ n → take n list ≡ list
take_past zero [] h = refl
take_past zero (x ∷ xs) h = absurd (omega (arith, h))
take_past (suc n) [] h = refl
take_past (suc n) (x ∷ xs) h = ap (λ z. x ∷ z) (take_past n xs (omega (arith, h)))

abbrev kind_of : Var → VarKind
kind_of v = v.kind

-- the kinds of the first variables, all of which are looked at
pub kinds_taken : (items vars : List Var) (n p i : ℕ) → items ≡ vars → n ≡ min p (length vars) →
    length (take n items) ≤ i → map kind_of (take i (take n items)) ≡ take p (map kind_of vars)
kinds_taken items vars n p i e m h =
    ap (map kind_of) (take_past i (take n items) h) ∙ ap (λ z. map kind_of (take n z)) e
    ∙ ap (λ z. map kind_of (take z vars)) m ∙ ap (map kind_of) (take_min p vars) ∙ sym (take-map kind_of p vars)
