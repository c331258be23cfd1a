-- A checked program's functions have as many names as variables.
use Rattle.std.proofs.Common.{◌≡◌, ℕ, zero, suc, List, [], ◌∷◌, length, map, unwrap_or, slice_get, refl, sym, ap, ◌∙◌}
use Rattle.cl_model.specs.declared.program.Var.{Var}
use Rattle.cl_model.specs.declared.program.Function.{Function}
use Rattle.cl_model.specs.declared.program.Program.{Program as Declared}
use Rattle.cl_model.specs.Calls.{no_function}
use Rattle.cl_model.specs.View.{function_of, program_of}
use Rattle.kir.specs.Lowering.{Named, names_of}
use Rattle.kir_lower_shape.specs.Names.{AreNamed}

-- a variable's name and place
abbrev name_of : Var → Named
name_of v = record { name = v.name; place = v.place }

same_length : {A B : Type 0} (f : A → B) (xs : List A) → length (map f xs) ≡ length xs
same_length f [] = refl
same_length f (x ∷ xs) = ap suc (same_length f xs)

named_at : (fs : List Function) (f : ℕ) →
    length (unwrap_or (slice_get (map (λ (g : Function). map name_of g.vars.items) fs) f) []) ≡
    length (unwrap_or (slice_get (map function_of fs) f) no_function).variables
named_at [] f = refl
named_at (g ∷ fs) zero = same_length name_of g.vars.items ∙ sym (same_length (λ (v : Var). v.kind) g.vars.items)
named_at (g ∷ fs) (suc f) = named_at fs f

pub are_named : (p : Declared) → AreNamed (program_of p) (names_of p)
are_named p f = named_at p.functions.items f
