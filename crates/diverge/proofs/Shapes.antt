-- The table keeps its shape: a row for each function, an entry for each of its variables.
use Rattle.std.proofs.Common.{◌≡◌, ℕ, zero, suc, Bool, Result, Ok, Err, IfOk, List, [], ◌∷◌, length, map, set}
use Rattle.std.proofs.Common.{replicate, refl, ap, ap₂, ◌∙◌}
use Rattle.cl_model.specs.Tree.{Function, Program}
use Rattle.diverge.specs.declared.known.Entry.{Entry}
use Rattle.diverge.specs.Known.{Row, State, fresh, change_row, with_entry, with_result_entry}
use Rattle.diverge.specs.Rounds.{start, start_row, marks_of, round_limit, rounds, known_of, varying_of}
use Rattle.diverge.specs.declared.rounds.Varying.{Varying}
use Rattle.diverge.specs.Marks.{FitsProgram, marks}
use Rattle.diverge.proofs.Kept.{Keeps, rounds_kept}

-- how many variables each row has
abbrev pub shape : List Row → List ℕ
shape [] = []
shape (row ∷ rows) = length row.variables ∷ shape rows

length_set : {A : Type 0} (xs : List A) (i : ℕ) (x : A) → length (set xs i x) ≡ length xs
length_set [] i x = refl
length_set (y ∷ xs) zero x = refl
length_set (y ∷ xs) (suc i) x = ap (λ n. suc n) (length_set xs i x)

shape_changed : (change : Row → Row) → ((row : Row) → length (change row).variables ≡ length row.variables) →
    (f : ℕ) (rows : List Row) → shape (change_row f change rows) ≡ shape rows
shape_changed change same f [] = refl
shape_changed change same zero (row ∷ rows) = ap (λ n. n ∷ shape rows) (same row)
shape_changed change same (suc f) (row ∷ rows) = ap (λ l. length row.variables ∷ l) (shape_changed change same f rows)

keeps_shape : (l : List ℕ) → Keeps (λ s. shape s.rows ≡ l)
keeps_shape l = record {
  variable = λ f x e s onward h. shape_changed (with_entry x e) (λ row. length_set row.variables x e) f s.rows ∙ h;
  result = λ f e s onward h. shape_changed (with_result_entry e) (λ row. refl) f s.rows ∙ h;
  fresh = λ s h. h;
}

length_map : {A B : Type 0} (f : A → B) (xs : List A) → length (map f xs) ≡ length xs
length_map f [] = refl
length_map f (x ∷ xs) = ap (λ n. suc n) (length_map f xs)

length_replicate : {A : Type 0} (n : ℕ) (x : A) → length (replicate n x) ≡ n
length_replicate zero x = refl
length_replicate (suc n) x = ap (λ k. suc k) (length_replicate n x)

marks_shape : (rows : List Row) → map length (map marks_of rows) ≡ shape rows
marks_shape [] = refl
marks_shape (row ∷ rows) = ap₂ (λ n l. n ∷ l) (length_map (λ (e : Entry). e.varies) row.variables) (marks_shape rows)

start_shape : (list : List Function) → shape (map start_row list) ≡ map (λ f. length f.variables) list
start_shape [] = refl
start_shape (f ∷ list) = ap₂ (λ n l. n ∷ l) (length_replicate (length f.variables) fresh) (start_shape list)

varying_shape : (program : Program) (list : List (List Bool)) → list ≡ varying_of program → FitsProgram program list
varying_shape program list h =
    let shapes = map (λ (f : Function). length f.variables) program.functions in
    ap (map length) h ∙ marks_shape (rounds program (round_limit program) (start program)).rows
    ∙ rounds_kept (λ s. shape s.rows ≡ shapes) (keeps_shape shapes) program (round_limit program) (start program)
    (start_shape program.functions)

-- of an answer
pub answer_shape : {E : Type 0} (program : Program) (answer : Result Varying E) (t : State) → t ≡ known_of program →
    IfOk answer (λ v. marks v ≡ map marks_of t.rows) → IfOk answer (λ v. FitsProgram program (marks v))
answer_shape program (Ok v) t h e = varying_shape program (marks v) (e ∙ ap (λ (u : State). map marks_of u.rows) h)
answer_shape program (Err x) t h e = e
