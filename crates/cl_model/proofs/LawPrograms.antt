-- The programs of the laws are valid, and their launches fit.
use Rattle.std.proofs.Common.{◌≡◌, ℕ, zero, suc, ◌*◌, ◌<◌, ◌≤◌, pos, List, [], ◌∷◌, length, replicate, Some}
use Rattle.std.proofs.Common.{slice_get, refl, sym, subst, inl, inr, arith}
use Rattle.std.proofs.lemmas.Int.{ints}
use Rattle.std.proofs.lemmas.List.{length-replicate}
use Rattle.std.proofs.lemmas.Option.{none-some, same_Some}
use Rattle.wg_num.specs.Wrap.{IsValue, modulus, half}
use Rattle.wg_num.specs.declared.types.IntType.{IntType}
use Rattle.wg_num.specs.declared.types.IntType.TheVariants.{Int, Uint, Long, Ulong}
use Rattle.cl_model.specs.declared.program.Space.TheVariants as space
use Rattle.cl_model.specs.declared.program.Root.{Root}
use Rattle.cl_model.specs.declared.program.VarKind.{VarKind}
use Rattle.cl_model.specs.declared.program.VarKind.TheVariants.{Pointer}
use Rattle.cl_model.specs.Lists.{AllDiffer}
use Rattle.cl_model.specs.Tree.{Function, Program}
use Rattle.cl_model.specs.Sizes.{Launch}
use Rattle.cl_model.specs.Valid.{HasType, NamesIn, KindFits, CallsEnd, AllFit, all_declarations, parameter_kinds}
use Rattle.cl_model.specs.Valid.{IsValidFunction, IsValid}
use Rattle.cl_model.specs.Meaning.{IsCleanLaunch}
use Rattle.cl_model.proofs.IncrementItems.{increment_clean}
use Rattle.cl_model.proofs.ExchangeItems.{exchange_clean}
use Rattle.cl_model.specs.Fitting.{DimensionFits, FitsProgram}
use Rattle.cl_model.specs.Increment.{IsFlat, own_offset, increment_kernel, increment_program, flat_launch}
use Rattle.cl_model.specs.Exchange.{own_number, own_element, other_number, exchange_kernel, exchange_program}
use Rattle.cl_model.specs.Exchange.{exchange_launch}

-- the literals of these programs are ints
int_zero : IsValue Int (pos 0)
unfolding modulus half
int_zero = record { low = omega (arith, ints); high = omega (arith, ints) }

int_one : IsValue Int (pos 1)
unfolding modulus half
int_one = record { low = omega (arith, ints); high = omega (arith, ints) }

own_offset_type : HasType increment_program increment_kernel own_offset Long
own_offset_type = (
  Long ∷ Long ∷ [],
  (
    ([], tt, (_, refl, refl)),
    ((Ulong ∷ [], ((Uint ∷ [], ((Int ∷ [], (([], tt, (int_zero, refl)), tt), refl), tt), (refl, refl)), tt), refl), tt),
  ),
  (refl, (λ e. refl), refl),
)

increment_types : AllFit increment_program increment_kernel increment_kernel.body
increment_types = (
  inl (
    Int,
    (
      Long ∷ Int ∷ [],
      (
        own_offset_type,
        (
          (
            Int ∷ Int ∷ [],
            (
              (Long ∷ [], (own_offset_type, tt), (refl, (space.Global, (_, refl)), refl)),
              (([], tt, (int_one, refl)), tt),
            ),
            (refl, (λ e. refl), refl),
          ),
          tt,
        ),
      ),
      (refl, refl, (space.Global, (_, refl), (λ e. cc e)), refl),
    ),
  ),
  tt,
)

own_offset_names : NamesIn (0 ∷ []) own_offset
own_offset_names = (tt, ((inl refl, tt), ((tt, ((tt, ((tt, ((tt, tt), tt)), tt)), tt)), tt)))

increment_function : IsValidFunction increment_program increment_kernel
increment_function = record {
  parameters = omega arith;
  kinds = λ x kind e. kinds x kind e;
  types = increment_types;
  scopes = ((tt, (own_offset_names, ((tt, ((tt, (own_offset_names, tt)), ((tt, tt), tt))), tt))), tt);
  declared = λ x low high. absurd (omega (arith, low, high));
  undeclared = λ x low. refl;
  exits = (tt, tt);
}
  where
    kinds : (x : ℕ) (kind : VarKind) → slice_get increment_kernel.variables x ≡ Some kind →
        KindFits increment_program increment_kernel x kind
    kinds zero kind e = subst (λ k. KindFits increment_program increment_kernel 0 k) (same_Some _ _ e) (
      (λ lt. refl),
      (λ le. absurd (omega (arith, le))),
    )
    kinds (suc x) kind e = absurd (none-some kind e)

pub increment_valid : IsValid increment_program
increment_valid = record {
  kernel = omega arith;
  tables = λ n table e. absurd (none-some table e);
  functions = functions;
  calls = calls;
  sites = (λ h. elim h [ inl e ↦ cc e | inr n ↦ n ], (λ h. h, tt));
  places = (omega arith, (omega arith, tt));
  size = omega arith;
}
  where
    functions : (n : ℕ) (f : Function) → slice_get increment_program.functions n ≡ Some f →
        IsValidFunction increment_program f
    functions zero f e = subst (λ g. IsValidFunction increment_program g) (same_Some _ _ e) increment_function
    functions (suc n) f e = absurd (none-some f e)

    calls : (n : ℕ) → n < 1 → CallsEnd increment_program 1 n
    calls zero h = tt
    calls (suc n) h = absurd (omega (arith, h))

dimension : (global local bytes : ℕ) → IsFlat global local → (d : ℕ) → d < 3 →
    DimensionFits (flat_launch global local bytes) d
dimension global local bytes h zero lt = record {
  some_local = h.0;
  some_global = h.2;
  divides = h.4;
  offset = omega arith;
  absent = λ le. absurd (omega (arith, le));
}
dimension global local bytes h (suc zero) lt = record {
  some_local = omega arith;
  some_global = omega arith;
  divides = refl;
  offset = omega arith;
  absent = λ le. (refl, refl, refl);
}
dimension global local bytes h (suc (suc zero)) lt = record {
  some_local = omega arith;
  some_global = omega arith;
  divides = refl;
  offset = omega arith;
  absent = λ le. (refl, refl, refl);
}
dimension global local bytes h (suc (suc (suc d))) lt = absurd (omega (arith, lt))

pub increment_fits : (global local bytes : ℕ) → IsFlat global local →
    FitsProgram increment_program (flat_launch global local bytes)
increment_fits global local bytes h = record {
  arguments = (omega arith, tt);
  apart = λ n m b element element' root root' e f g k. no_constant n element root e;
  few_dims = (omega arith, omega arith);
  dimensions = dimension global local bytes h;
  group_limit = omega (arith, h.1);
  item_limit = omega (arith, h.3);
  loads = refl;
  saves = refl;
  local_limit = omega arith;
}
  where
    no_constant : (n : ℕ) (element : IntType) (root : Root) →
        slice_get increment_kernel.variables n ≡ Some (Pointer space.Constant element root) → ⊥
    no_constant zero element root e = cc e
    no_constant (suc n) element root e = none-some _ e

own_number_type : HasType exchange_program exchange_kernel own_number Long
own_number_type = (Int ∷ [], (([], tt, (_, refl, refl)), tt), refl)

own_element_type : HasType exchange_program exchange_kernel own_element Long
own_element_type = (Long ∷ Long ∷ [], (([], tt, (_, refl, refl)), (own_number_type, tt)), (refl, (λ e. refl), refl))

other_number_type : HasType exchange_program exchange_kernel other_number Long
other_number_type = (
  Int ∷ [],
  ((Int ∷ Int ∷ [], (([], tt, (int_one, refl)), (([], tt, (_, refl, refl)), tt)), (refl, (λ e. refl), refl)), tt),
  refl,
)

exchange_types : AllFit exchange_program exchange_kernel exchange_kernel.body
exchange_types = (
  (
    Int,
    (_, refl, refl),
    (
      Ulong ∷ [],
      ((Uint ∷ [], ((Int ∷ [], (([], tt, (int_zero, refl)), tt), refl), tt), (refl, refl)), tt),
      refl,
    ),
  ),
  (
    inl (
      Int,
      (
        Long ∷ Int ∷ [],
        (own_number_type, ((Long ∷ [], (own_element_type, tt), (refl, (space.Global, (_, refl)), refl)), tt)),
        (refl, refl, (space.Local, (_, refl, refl, refl, refl), (λ e. cc e)), refl),
      ),
    ),
    (
      tt,
      (
        inl (
          Int,
          (
            Long ∷ Int ∷ [],
            (
              own_element_type,
              (
                (
                  Long ∷ [],
                  (other_number_type, tt),
                  (refl, (space.Local, (_, refl, refl, refl, refl)), refl),
                ),
                tt,
              ),
            ),
            (refl, refl, (space.Global, (_, refl), (λ e. cc e)), refl),
          ),
        ),
        tt,
      ),
    ),
  ),
)

own_element_names : NamesIn (1 ∷ 0 ∷ []) own_element
own_element_names = (tt, ((inr (inl refl), tt), ((tt, ((inl refl, tt), tt)), tt)))

exchange_function : IsValidFunction exchange_program exchange_kernel
exchange_function = record {
  parameters = omega arith;
  kinds = λ x kind e. kinds x kind e;
  types = exchange_types;
  scopes = (
    (λ h. elim h [ inl e ↦ cc e | inr n ↦ n ]),
    (tt, ((tt, ((tt, ((tt, tt), tt)), tt)), tt)),
    (
      (tt, ((tt, ((inl refl, tt), tt)), ((tt, (own_element_names, tt)), tt))),
      (tt, ((tt, (own_element_names, ((tt, ((tt, ((tt, ((tt, tt), ((inl refl, tt), tt))), tt)), tt)), tt))), tt)),
    ),
  );
  declared = λ x low high. declared x low high;
  undeclared = λ x low. undeclared x low;
  exits = (tt, (tt, (tt, (tt, tt))));
}
  where
    kinds : (x : ℕ) (kind : VarKind) → slice_get exchange_kernel.variables x ≡ Some kind →
        KindFits exchange_program exchange_kernel x kind
    kinds zero kind e = subst (λ k. KindFits exchange_program exchange_kernel 0 k) (same_Some _ _ e) (
      (λ lt. refl),
      (λ le. absurd (omega (arith, le))),
    )
    kinds (suc zero) kind e = subst (λ k. KindFits exchange_program exchange_kernel 1 k) (same_Some _ _ e) tt
    kinds (suc (suc x)) kind e = absurd (none-some kind e)

    declared : (x : ℕ) → 1 ≤ x → x < 2 → all_declarations exchange_kernel.body x ≡ 1
    declared zero low high = absurd (omega (arith, low))
    declared (suc zero) low high = refl
    declared (suc (suc x)) low high = absurd (omega (arith, high))

    undeclared : (x : ℕ) → x < 1 → all_declarations exchange_kernel.body x ≡ 0
    undeclared zero low = refl
    undeclared (suc x) low = absurd (omega (arith, low))

pub exchange_valid : IsValid exchange_program
exchange_valid = record {
  kernel = omega arith;
  tables = λ n table e. absurd (none-some table e);
  functions = functions;
  calls = calls;
  sites = apart;
  places = (omega arith, (omega arith, (omega arith, (omega arith, (omega arith, tt)))));
  size = omega arith;
}
  where
    functions : (n : ℕ) (f : Function) → slice_get exchange_program.functions n ≡ Some f →
        IsValidFunction exchange_program f
    functions zero f e = subst (λ g. IsValidFunction exchange_program g) (same_Some _ _ e) exchange_function
    functions (suc n) f e = absurd (none-some f e)

    calls : (n : ℕ) → n < 1 → CallsEnd exchange_program 1 n
    calls zero h = tt
    calls (suc n) h = absurd (omega (arith, h))

    apart : AllDiffer {A = ℕ} (0 ∷ 1 ∷ 2 ∷ 3 ∷ 4 ∷ [])
    apart = (
      (λ h. elim h [
        | inl e ↦ cc e
        | inr h ↦
            elim h [
              | inl e ↦ cc e
              | inr h ↦
                  elim h [ inl e ↦ cc e | inr h ↦ elim h [ inl e ↦ cc e | inr n ↦ n ] ]
            ]
      ]),
      (
        (λ h. elim h [ inl e ↦ cc e | inr h ↦ elim h [ inl e ↦ cc e | inr h ↦ elim h [ inl e ↦ cc e | inr n ↦ n ] ] ]),
        (
          (λ h. elim h [ inl e ↦ cc e | inr h ↦ elim h [ inl e ↦ cc e | inr n ↦ n ] ]),
          ((λ h. elim h [ inl e ↦ cc e | inr n ↦ n ]), ((λ h. h), tt)),
        ),
      ),
    )

pub exchange_fits : FitsProgram exchange_program exchange_launch
exchange_fits = record {
  arguments = (omega arith, tt);
  apart = λ n m b element element' root root' e f g k. no_constant n element root e;
  few_dims = (omega arith, omega arith);
  dimensions = dimension 2 2 8 (omega arith, omega arith, omega arith, omega arith, refl);
  group_limit = omega arith;
  item_limit = omega arith;
  loads = refl;
  saves = refl;
  local_limit = omega arith;
}
  where
    no_constant : (n : ℕ) (element : IntType) (root : Root) →
        slice_get (parameter_kinds exchange_kernel) n ≡ Some (Pointer space.Constant element root) → ⊥
    no_constant zero element root e = cc e
    no_constant (suc n) element root e = none-some _ e

-- the whole of what the laws say of a program, a launch and buffers
pub increment_whole : (global local : ℕ) → IsFlat global local →
    IsCleanLaunch increment_program (flat_launch global local (global * 4)) (replicate (global * 4) 0 ∷ [])
increment_whole global local h =
    let buffer : List ℕ = replicate (global * 4) 0 in
    let sized : length buffer ≡ global * 4 = length-replicate (global * 4) 0 in
    subst (λ n. IsCleanLaunch increment_program (flat_launch global local n) (replicate (global * 4) 0 ∷ [])) sized
    (increment_clean global local (replicate (global * 4) 0) (omega (arith, h.0)) h.4 (omega (arith, h.3))
    (omega (arith, sized)))

pub exchange_whole : IsCleanLaunch exchange_program exchange_launch (replicate 8 0 ∷ [])
exchange_whole = exchange_clean (replicate 8 0) refl

-- what holds of a launch holds of an equal one
pub clean_at : (p p' : Program) (l l' : Launch) (b b' : List (List ℕ)) → p ≡ p' → l ≡ l' → b ≡ b' →
    IsCleanLaunch p' l' b' → IsCleanLaunch p l b
clean_at p p' l l' b b' e f g h =
    subst (λ p. IsCleanLaunch p l b) (sym e)
    (subst (λ l. IsCleanLaunch p' l b) (sym f) (subst (λ b. IsCleanLaunch p' l' b) (sym g) h))

pub valid_at : (p p' : Program) → p ≡ p' → IsValid p' → IsValid p
valid_at p p' e h = subst (λ p. IsValid p) (sym e) h
