-- The variables of the inlined program: those of each function as often as it stands there, each declared once.
use Rattle.std.proofs.Common.{◌≡◌, ℕ, zero, suc, ◌<◌, List, [], ◌∷◌, ◌++◌, length, unwrap_or, refl, sym, ap, subst}
use Rattle.std.proofs.Common.{arith, true, false, ◌⊎◌, inl, inr, ⊎_elim}
use Rattle.std.proofs.Common.{Bool as Test}
use Rattle.std.specs.Prelude.{nat_lt}
use Rattle.std.proofs.lemmas.Option.{none-some, slice_get_past}
use Rattle.std.proofs.lemmas.Bool.{ltb-true, ltb-false}
use Rattle.cl_model.specs.Tree.{Program}
use Rattle.cl_model.specs.Lists.{IsOneOf}
use Rattle.cl_model.specs.Calls.{CallSite, calls_of_all, function_at, no_function}
use Rattle.cl_model.specs.Valid.{IsValid, IsValidFunction}
use Rattle.kir.specs.Tree.{Variable}
use Rattle.kir.specs.Inlined.{NoText, BlockThen, Inlining, body_holds, function_text, variables_in, variable_of}
use Rattle.kir.specs.Inlined.{statements_before}
use Rattle.kir_lower_shape.proofs.Arguments.{valid_function}
use Rattle.kir_lower_shape.proofs.Members.{one_left, one_right, one_split}
use Rattle.kir_lower_shape.proofs.TextVariables.{Mem, list_calls, list_declares, list_from, parameters_keep}
use Rattle.kir_lower_shape.proofs.TextVariables.{parameters_declare, parameters_from}

-- the variable is one of the function behind these calls
abbrev pub OwnOf : Program → List ℕ → ℕ → Variable → Type 0
OwnOf program path f v =
    (x : ℕ) × (x < length (function_at program f).variables) × (v ≡ record { calls = path; function = f; number = x })

-- or of one that it calls, with calls nested less deep than the depth
abbrev pub IsBelow : Program → ℕ → List ℕ → ℕ → Variable → Type 0
IsBelow program zero path f v = ⊥
IsBelow program (suc depth) path f v =
    OwnOf program path f v ⊎ ((c : CallSite) × IsOneOf (calls_of_all (function_at program f).body) c ×
    IsBelow program depth (path ++ c.site ∷ []) c.function v)

-- what stands for a function that is not there is valid too
no_function_valid : (program : Program) → IsValidFunction program no_function
no_function_valid program = record {
  parameters = omega arith;
  kinds = λ x kind e. absurd (none-some kind e);
  types = tt;
  scopes = tt;
  declared = λ x a b. absurd (omega (arith, a, b));
  undeclared = λ x a. absurd (omega (arith, a));
  exits = tt;
}

-- so a function of any number is valid
pub valid_any : (program : Program) → IsValid program → (f : ℕ) → IsValidFunction program (function_at program f)
valid_any program valid f = by_test (nat_lt f (length program.functions)) refl
  where
    by_test : (b : Test) → nat_lt f (length program.functions) ≡ b → IsValidFunction program (function_at program f)
    by_test true e = valid_function program valid f (ltb-true f (length program.functions) e)
    by_test false e =
        subst (IsValidFunction program)
        (sym (ap (λ z. unwrap_or z no_function)
        (slice_get_past program.functions f (ltb-false f (length program.functions) e))))
        (no_function_valid program)

-- the function as it stands in the inlined text
abbrev pub inlining_at : Program → ℕ → List ℕ → ℕ → Inlining
inlining_at program depth path f = record {
  calls = path;
  function = f;
  called = λ site g rest. BlockThen (function_text program depth (path ++ site ∷ []) g) rest;
  inside = body_holds program depth;
}

module _ (program : Program) (valid : IsValid program) where
  -- what stands in the text of a function
  pub text_below : (depth : ℕ) (path : List ℕ) (f : ℕ) (v : Variable) → Mem (function_text program depth path f) v →
      IsBelow program depth path f v
  text_below zero path f v h = absurd h
  text_below (suc depth) path f v h =
      let here = inlining_at program depth path f in
      let g = function_at program f in
      let fits = valid_any program valid f in
      ⊎_elim (λ own. inl (own.0, omega (arith, own.1, fits.parameters), own.2))
      (λ m. ⊎_elim (λ p. ⊎_elim (λ own. inl own) (λ found. inr (
        found.0,
        found.1,
        text_below depth (path ++ found.0.site ∷ []) found.0.function v found.2,
      )) p) (λ none_. absurd none_)
      (list_from here (λ site g v. Mem (function_text program depth (path ++ site ∷ []) g) v)
      (λ site g rest v i. one_left (variables_in (function_text program depth (path ++ site ∷ []) g))
      (variables_in rest) v i)
      (λ site g rest v m. one_right (variables_in (function_text program depth (path ++ site ∷ []) g))
      (variables_in rest) v m)
      (λ site g rest v m. one_split (variables_in (function_text program depth (path ++ site ∷ []) g))
      (variables_in rest) v m) program g g.body NoText v fits.types m))
      (parameters_from here (λ site g v. Mem (function_text program depth (path ++ site ∷ []) g) v)
      (λ site g rest v i. one_left (variables_in (function_text program depth (path ++ site ∷ []) g))
      (variables_in rest) v i)
      (λ site g rest v m. one_right (variables_in (function_text program depth (path ++ site ∷ []) g))
      (variables_in rest) v m)
      (λ site g rest v m. one_split (variables_in (function_text program depth (path ++ site ∷ []) g))
      (variables_in rest) v m) g.parameters (statements_before here g.body NoText) v h)

  own_in_text : (depth : ℕ) (path : List ℕ) (f x : ℕ) → x < length (function_at program f).variables →
      Mem (function_text program (suc depth) path f) (record { calls = path; function = f; number = x })
  own_in_text depth path f x less = by_test (nat_lt x (function_at program f).parameters) refl
    where
      by_test : (b : Test) → nat_lt x (function_at program f).parameters ≡ b →
          Mem (function_text program (suc depth) path f) (record { calls = path; function = f; number = x })
      by_test true e =
          let here = inlining_at program depth path f in
          let g = function_at program f in
          parameters_declare here (λ site g v. Mem (function_text program depth (path ++ site ∷ []) g) v)
          (λ site g rest v i. one_left (variables_in (function_text program depth (path ++ site ∷ []) g))
          (variables_in rest) v i)
          (λ site g rest v m. one_right (variables_in (function_text program depth (path ++ site ∷ []) g))
          (variables_in rest) v m)
          (λ site g rest v m. one_split (variables_in (function_text program depth (path ++ site ∷ []) g))
          (variables_in rest) v m) g.parameters (statements_before here g.body NoText) x
          (ltb-true x g.parameters e)
      by_test false e =
          let here = inlining_at program depth path f in
          let g = function_at program f in
          let once_ = (valid_any program valid f).declared x (ltb-false x g.parameters e) less in
          parameters_keep here (λ site g v. Mem (function_text program depth (path ++ site ∷ []) g) v)
          (λ site g rest v i. one_left (variables_in (function_text program depth (path ++ site ∷ []) g))
          (variables_in rest) v i)
          (λ site g rest v m. one_right (variables_in (function_text program depth (path ++ site ∷ []) g))
          (variables_in rest) v m)
          (λ site g rest v m. one_split (variables_in (function_text program depth (path ++ site ∷ []) g))
          (variables_in rest) v m) g.parameters (statements_before here g.body NoText) (variable_of here x)
          (list_declares here (λ site g v. Mem (function_text program depth (path ++ site ∷ []) g) v)
          (λ site g rest v i. one_left (variables_in (function_text program depth (path ++ site ∷ []) g))
          (variables_in rest) v i)
          (λ site g rest v m. one_right (variables_in (function_text program depth (path ++ site ∷ []) g))
          (variables_in rest) v m)
          (λ site g rest v m. one_split (variables_in (function_text program depth (path ++ site ∷ []) g))
          (variables_in rest) v m) g.body NoText x (omega (arith, once_)))

  -- each variable stands in the text
  pub below_text : (depth : ℕ) (path : List ℕ) (f : ℕ) (v : Variable) → IsBelow program depth path f v →
      Mem (function_text program depth path f) v
  below_text zero path f v h = absurd h
  below_text (suc depth) path f v (inl own) =
      subst (λ z. Mem (function_text program (suc depth) path f) z) (sym own.2) (own_in_text depth path f own.0 own.1)
  below_text (suc depth) path f v (inr found) =
      let here = inlining_at program depth path f in
      let g = function_at program f in
      parameters_keep here (λ site g v. Mem (function_text program depth (path ++ site ∷ []) g) v)
      (λ site g rest v i. one_left (variables_in (function_text program depth (path ++ site ∷ []) g))
      (variables_in rest) v i)
      (λ site g rest v m. one_right (variables_in (function_text program depth (path ++ site ∷ []) g))
      (variables_in rest) v m)
      (λ site g rest v m. one_split (variables_in (function_text program depth (path ++ site ∷ []) g))
      (variables_in rest) v m) g.parameters (statements_before here g.body NoText) v
      (list_calls here (λ site g v. Mem (function_text program depth (path ++ site ∷ []) g) v)
      (λ site g rest v i. one_left (variables_in (function_text program depth (path ++ site ∷ []) g))
      (variables_in rest) v i)
      (λ site g rest v m. one_right (variables_in (function_text program depth (path ++ site ∷ []) g))
      (variables_in rest) v m)
      (λ site g rest v m. one_split (variables_in (function_text program depth (path ++ site ∷ []) g))
      (variables_in rest) v m) g.body NoText v
      (found.0, found.1, below_text depth (path ++ found.0.site ∷ []) found.0.function v found.2))
