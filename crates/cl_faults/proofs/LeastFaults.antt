-- The first fault of the groups that passes is the least.
use Rattle.std.proofs.Common.{ℕ, suc, ◌+◌, ◌-◌, ◌<◌, ◌≤◌, Bool, true, false, List, [], ◌∷◌, ◌++◌, length, slice_get}
use Rattle.std.proofs.Common.{Option, None, Some, ◌⊎◌, inl, inr, ◌≡◌, refl, sym, ap, ◌∙◌, arith, find}
use Rattle.std.proofs.lemmas.Bool.{cases_lt}
use Rattle.cl_meaning.specs.declared.fault.Fault.{Fault}
use Rattle.cl_meaning.specs.declared.fault.Fault.TheVariants as faults
use Rattle.cl_meaning.specs.Numbers.{number_of}
use Rattle.cl_faults.specs.Least.{expression_faults, declaration_faults, statement_faults, LeastOf, IsLeastOf}

abbrev all_faults : List Fault
all_faults = expression_faults ++ declaration_faults ++ statement_faults

abbrev fault_at_number : ℕ → Option Fault
fault_at_number n = slice_get all_faults (n - 401)

test_is : (b : Bool) → (b ≡ true) ⊎ (b ≡ false)
test_is true = inl refl
test_is false = inr refl

record Numbered (k : Fault) : Type 0 where
  low : 401 ≤ number_of k
  high : number_of k < 425
  back : fault_at_number (number_of k) ≡ Some k

numbers : (k : Fault) → Numbered k
numbers faults.UnknownName = record { low = omega arith; high = omega arith; back = refl }
numbers faults.DeclaredTwice = record { low = omega arith; high = omega arith; back = refl }
numbers faults.OperandTypes = record { low = omega arith; high = omega arith; back = refl }
numbers faults.ArgumentCount = record { low = omega arith; high = omega arith; back = refl }
numbers faults.ArgumentType = record { low = omega arith; high = omega arith; back = refl }
numbers faults.NotAssignable = record { low = omega arith; high = omega arith; back = refl }
numbers faults.ConstantWritten = record { low = omega arith; high = omega arith; back = refl }
numbers faults.OutsideType = record { low = omega arith; high = omega arith; back = refl }
numbers faults.LocalMisplaced = record { low = omega arith; high = omega arith; back = refl }
numbers faults.ProgramVariable = record { low = omega arith; high = omega arith; back = refl }
numbers faults.KernelSignature = record { low = omega arith; high = omega arith; back = refl }
numbers faults.Recursion = record { low = omega arith; high = omega arith; back = refl }
numbers faults.PointerRoot = record { low = omega arith; high = omega arith; back = refl }
numbers faults.ArrayLength = record { low = omega arith; high = omega arith; back = refl }
numbers faults.Misplaced = record { low = omega arith; high = omega arith; back = refl }
numbers faults.CaseValue = record { low = omega arith; high = omega arith; back = refl }
numbers faults.ReturnFit = record { low = omega arith; high = omega arith; back = refl }
numbers faults.BarrierFlags = record { low = omega arith; high = omega arith; back = refl }
numbers faults.KernelTooLarge = record { low = omega arith; high = omega arith; back = refl }
numbers faults.PrivateMemory = record { low = omega arith; high = omega arith; back = refl }
numbers faults.BarriersTooDeep = record { low = omega arith; high = omega arith; back = refl }
numbers faults.NoSuchKernel = record { low = omega arith; high = omega arith; back = refl }
numbers faults.LocalMemory = record { low = omega arith; high = omega arith; back = refl }
numbers faults.PrototypeMatch = record { low = omega arith; high = omega arith; back = refl }

same_fault : (j k : Fault) → number_of j ≡ number_of k → j ≡ k
same_fault j k h = let e : Some j ≡ Some k = sym (numbers j).back ∙ (ap fault_at_number h ∙ (numbers k).back) in cc

-- faults with the numbers from n on
abbrev Rising : ℕ → List Fault → Type 0
Rising n [] = Unit {0}
Rising n (k ∷ ks) = (number_of k ≡ n) × Rising (suc n) ks

record Found (p : Fault → Bool) (n : ℕ) (k : Fault) : Type 0 where
  at : p k ≡ true
  above : n ≤ number_of k
  least : (j : Fault) → n ≤ number_of j → number_of j < number_of k → p j ≡ false

here : (p : Fault → Bool) (n : ℕ) (x k : Fault) → number_of x ≡ n → p x ≡ true → x ≡ k → Found p n k
here p n x k h e s =
    let m : number_of k ≡ n = ap number_of (sym s) ∙ h in
    record { at = ap p (sym s) ∙ e; above = omega arith; least = λ j a b. absurd (omega (arith, a, b, m)) }

behind : (p : Fault → Bool) (n : ℕ) (x k : Fault) → number_of x ≡ n → p x ≡ false → Found p (suc n) k → Found p n k
behind p n x k h e f = record { at = f.at; above = omega (arith, f.above); least = least }
  where
    least : (j : Fault) → n ≤ number_of j → number_of j < number_of k → p j ≡ false
    least j a b = elim (cases_lt n (number_of j)) [
      | inl c ↦ f.least j (omega arith) b
      | inr c ↦ (let m : number_of j ≡ number_of x = omega arith in ap p (same_fault j x m) ∙ e)
    ]

find_some : (p : Fault → Bool) (n : ℕ) (xs : List Fault) (k : Fault) → Rising n xs → find p xs ≡ Some k → Found p n k
find_some p n [] k r h = absurd cc
find_some p n (x ∷ xs) k r h = elim (test_is (p x)) [
  | inl e ↦ (let g : Some x ≡ Some k = rw e at h in let s : x ≡ k = cc in here p n x k r.0 e s)
  | inr e ↦ (let g : find p xs ≡ Some k = rw e at h in behind p n x k r.0 e (find_some p (suc n) xs k r.1 g))
]

find_none : (p : Fault → Bool) (n : ℕ) (xs : List Fault) → Rising n xs → find p xs ≡ None → (j : Fault) →
    n ≤ number_of j → number_of j < n + length xs → p j ≡ false
find_none p n [] r h j a b = absurd (omega arith)
find_none p n (x ∷ xs) r h j a b = elim (test_is (p x)) [
  | inl e ↦ (let g : Some x ≡ None = rw e at h in absurd cc)
  | inr e ↦ (let g : find p xs ≡ None = rw e at h in elim (cases_lt n (number_of j)) [
    | inl c ↦ find_none p (suc n) xs r.1 g j (omega arith) (omega arith)
    | inr c ↦ (let m : number_of j ≡ number_of x = omega (arith, r.0) in ap p (same_fault j x m) ∙ e)
  ])
]

expressions_rise : Rising 401 expression_faults
expressions_rise = (refl, (refl, (refl, (refl, (refl, (refl, (refl, tt)))))))

declarations_rise : Rising 408 declaration_faults
declarations_rise = (refl, (refl, (refl, (refl, (refl, (refl, (refl, tt)))))))

statements_rise : Rising 415 statement_faults
statements_rise = (refl, (refl, (refl, (refl, (refl, (refl, (refl, (refl, (refl, (refl, tt))))))))))

module _ (p : Fault → Bool) where
  none_of_expressions : find p expression_faults ≡ None → (j : Fault) → number_of j < 408 → p j ≡ false
  none_of_expressions h j b = find_none p 401 expression_faults expressions_rise h j (numbers j).low (omega arith)

  none_of_declarations : find p declaration_faults ≡ None → (j : Fault) → 408 ≤ number_of j → number_of j < 415 →
      p j ≡ false
  none_of_declarations h j a b = find_none p 408 declaration_faults declarations_rise h j a (omega arith)

  none_of_statements : find p statement_faults ≡ None → (j : Fault) → 415 ≤ number_of j → p j ≡ false
  none_of_statements h j a = find_none p 415 statement_faults statements_rise h j a (let b : number_of j <
      425 = (numbers j).high in omega arith)

  pub least_expression : (k : Fault) → find p expression_faults ≡ Some k → LeastOf p k
  least_expression k h =
      let f : Found p 401 k = find_some p 401 expression_faults k expressions_rise h in
      record { at = f.at; least = λ j b. f.least j (numbers j).low b }

  pub least_declaration : (k : Fault) → find p expression_faults ≡ None → find p declaration_faults ≡ Some k →
      LeastOf p k
  least_declaration k g h = record { at = f.at; least = least }
    where
      f : Found p 408 k
      f = find_some p 408 declaration_faults k declarations_rise h

      least : (j : Fault) → number_of j < number_of k → p j ≡ false
      least j b = elim (cases_lt (number_of j) 408) [ inl c ↦ none_of_expressions g j c | inr c ↦ f.least j c b ]

  least_statement : (k : Fault) → find p expression_faults ≡ None → find p declaration_faults ≡ None →
      find p statement_faults ≡ Some k → LeastOf p k
  least_statement k g d h = record { at = f.at; least = least }
    where
      f : Found p 415 k
      f = find_some p 415 statement_faults k statements_rise h

      least : (j : Fault) → number_of j < number_of k → p j ≡ false
      least j b = elim (cases_lt (number_of j) 408) [
        | inl c ↦ none_of_expressions g j c
        | inr c ↦ elim (cases_lt (number_of j) 415) [ inl e ↦ none_of_declarations d j c e | inr e ↦ f.least j e b ]
      ]

  none_at_all : find p expression_faults ≡ None → find p declaration_faults ≡ None → find p statement_faults ≡ None →
      (j : Fault) → p j ≡ false
  none_at_all g d h j = elim (cases_lt (number_of j) 408) [
    | inl c ↦ none_of_expressions g j c
    | inr c ↦ elim (cases_lt (number_of j) 415) [
      | inl e ↦ none_of_declarations d j c e
      | inr e ↦
          none_of_statements h j e
    ]
  ]

  pub least_of_all : (o : Option Fault) → find p expression_faults ≡ None → find p declaration_faults ≡ None →
      o ≡ find p statement_faults → IsLeastOf p o
  least_of_all None g d h = none_at_all g d (sym h)
  least_of_all (Some k) g d h = least_statement k g d (sym h)
