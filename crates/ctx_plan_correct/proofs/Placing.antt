-- The columns of a function: each marked variable has its number, and each site says how many columns are taken.
use Rattle.std.proofs.Common.{◌≡◌, ℕ, zero, suc, ◌+◌, ◌<◌, List, [], ◌∷◌, length, refl, sym, ap, ◌∙◌, subst, arith}
use Rattle.std.proofs.Common.{inl, inr}
use Rattle.std.specs.Prelude.{Bool as Test, true, false}
use Rattle.std.specs.Prelude.{slice_set, if◌then◌else◌}
use Rattle.std.proofs.lemmas.Bool.{true≢false}
use Rattle.ctx_plan.specs.Outline.{Outline, NoPiece, DeclaresThen, CutThen, CallsThen, BlockThen}
use Rattle.ctx_plan.specs.Sharing.{own_columns, Columns, share_columns}
use Rattle.ctx_plan.specs.Made.{number_at}
use Rattle.ctx_plan_correct.specs.Crossing.{DeclaredIn}
use Rattle.ctx_plan_correct.specs.Placing.{CalledIn, IsOnceIn, after, IsPlaced}

-- ---- lists of numbers

set_same : (l : List ℕ) (n v : ℕ) → n < length l → number_at (slice_set l n v) n ≡ v
set_same [] n v lt = absurd (omega arith)
set_same (x ∷ l) zero v lt = refl
set_same (x ∷ l) (suc n) v lt = set_same l n v (omega arith)

set_other : (l : List ℕ) (n m v : ℕ) → (n ≡ m → ⊥) → number_at (slice_set l n v) m ≡ number_at l m
set_other [] n m v ne = refl
set_other (x ∷ l) zero zero v ne = absurd (ne refl)
set_other (x ∷ l) zero (suc m) v ne = refl
set_other (x ∷ l) (suc n) zero v ne = refl
set_other (x ∷ l) (suc n) (suc m) v ne = set_other l n m v (λ e. ne (ap suc e))

set_many : (l : List ℕ) (n v : ℕ) → length (slice_set l n v) ≡ length l
set_many [] n v = refl
set_many (x ∷ l) zero v = refl
set_many (x ∷ l) (suc n) v = ap suc (set_many l n v)

module _ (marked : ℕ → Test) where
  -- the columns so far behind a declaration
  abbrev noted : Test → ℕ → ℕ → Columns → Columns
  noted b x next s = if b then record { numbers = slice_set s.numbers x next; taken = s.taken } else s

  -- sharing over a declaration, in one form for marked and unmarked ones
  shared : (within next x : ℕ) (rest : Outline) (s : Columns) →
      share_columns marked within next (DeclaresThen x rest) s ≡ share_columns marked within (after (marked x) next)
      rest (noted (marked x) x next s)
  shared within next x rest s = by (marked x)
    where
      by : (b : Test) → (if b then share_columns marked within (next + 1) rest
          (record { numbers = slice_set s.numbers x next; taken = s.taken }) else share_columns marked within next
          rest s) ≡ share_columns marked within (after b next) rest (noted b x next s)
      by true = refl
      by false = refl

  noted_number : (b : Test) (x next y : ℕ) (s : Columns) → (x ≡ y → ⊥) →
      number_at (noted b x next s).numbers y ≡ number_at s.numbers y
  noted_number true x next y s ne = set_other s.numbers x y next ne
  noted_number false x next y s ne = refl

  noted_here : (b : Test) (x next : ℕ) (s : Columns) → b ≡ true → x < length s.numbers →
      number_at (noted b x next s).numbers x ≡ next
  noted_here true x next s e lt = set_same s.numbers x next lt
  noted_here false x next s e lt = absurd (true≢false (sym e))

  noted_taken : (b : Test) (x next : ℕ) (s : Columns) → (noted b x next s).taken ≡ s.taken
  noted_taken true x next s = refl
  noted_taken false x next s = refl

  noted_length : (b : Test) (x next : ℕ) (s : Columns) → length (noted b x next s).numbers ≡ length s.numbers
  noted_length true x next s = set_many s.numbers x next
  noted_length false x next s = refl

  -- ---- lengths stay

  numbers_stay : (within next : ℕ) (o : Outline) (s : Columns) →
      length (share_columns marked within next o s).numbers ≡ length s.numbers
  numbers_stay within next NoPiece s = refl
  numbers_stay within next (DeclaresThen x rest) s =
      ap (λ c. length c.numbers) (shared within next x rest s) ∙
      (numbers_stay within (after (marked x) next) rest (noted (marked x) x next s) ∙
      noted_length (marked x) x next s)
  numbers_stay within next (CutThen rest) s = numbers_stay within next rest s
  numbers_stay within next (CallsThen site g rest) s =
      numbers_stay within next rest (record { numbers = s.numbers; taken = slice_set s.taken site within })
  numbers_stay within next (BlockThen inner rest) s =
      numbers_stay within next rest (share_columns marked (within + own_columns marked inner) within inner s) ∙
      numbers_stay (within + own_columns marked inner) within inner s

  pub taken_stay : (within next : ℕ) (o : Outline) (s : Columns) →
      length (share_columns marked within next o s).taken ≡ length s.taken
  taken_stay within next NoPiece s = refl
  taken_stay within next (DeclaresThen x rest) s =
      ap (λ c. length c.taken) (shared within next x rest s) ∙
      (taken_stay within (after (marked x) next) rest (noted (marked x) x next s) ∙
      ap length (noted_taken (marked x) x next s))
  taken_stay within next (CutThen rest) s = taken_stay within next rest s
  taken_stay within next (CallsThen site g rest) s =
      taken_stay within next rest (record { numbers = s.numbers; taken = slice_set s.taken site within }) ∙
      set_many s.taken site within
  taken_stay within next (BlockThen inner rest) s =
      taken_stay within next rest (share_columns marked (within + own_columns marked inner) within inner s) ∙
      taken_stay (within + own_columns marked inner) within inner s

  -- ---- what is not in the outline stays

  number_kept : (within next : ℕ) (o : Outline) (s : Columns) (x : ℕ) → (DeclaredIn o x → ⊥) →
      number_at (share_columns marked within next o s).numbers x ≡ number_at s.numbers x
  number_kept within next NoPiece s x not_in = refl
  number_kept within next (DeclaresThen y rest) s x not_in =
      ap (λ c. number_at c.numbers x) (shared within next y rest s)
      ∙ (number_kept within (after (marked y) next) rest (noted (marked y) y next s) x (λ h. not_in (inr h)) ∙
      noted_number (marked y) y next x s (λ e. not_in (inl e)))
  number_kept within next (CutThen rest) s x not_in = number_kept within next rest s x not_in
  number_kept within next (CallsThen site g rest) s x not_in =
      number_kept within next rest (record { numbers = s.numbers; taken = slice_set s.taken site within }) x not_in
  number_kept within next (BlockThen inner rest) s x not_in =
      number_kept within next rest (share_columns marked (within + own_columns marked inner) within inner s) x
      (λ h. not_in (inr h)) ∙ number_kept (within + own_columns marked inner) within inner s x (λ h. not_in (inl h))

  pub taken_kept : (within next : ℕ) (o : Outline) (s : Columns) (n : ℕ) → (CalledIn o n → ⊥) →
      number_at (share_columns marked within next o s).taken n ≡ number_at s.taken n
  taken_kept within next NoPiece s n not_in = refl
  taken_kept within next (DeclaresThen y rest) s n not_in =
      ap (λ c. number_at c.taken n) (shared within next y rest s) ∙
      (taken_kept within (after (marked y) next) rest (noted (marked y) y next s) n not_in ∙
      ap (λ l. number_at l n) (noted_taken (marked y) y next s))
  taken_kept within next (CutThen rest) s n not_in = taken_kept within next rest s n not_in
  taken_kept within next (CallsThen site g rest) s n not_in =
      taken_kept within next rest (record { numbers = s.numbers; taken = slice_set s.taken site within }) n
      (λ h. not_in (inr h)) ∙ set_other s.taken site n within (λ e. not_in (inl e))
  taken_kept within next (BlockThen inner rest) s n not_in =
      taken_kept within next rest (share_columns marked (within + own_columns marked inner) within inner s) n
      (λ h. not_in (inr h)) ∙ taken_kept (within + own_columns marked inner) within inner s n (λ h. not_in (inl h))

  -- ---- placed

  -- only the numbers of the outline's own marked variables and sites matter
  pub placed_as : (n t n' t' : ℕ → ℕ) (within next : ℕ) (o : Outline) →
      ((x : ℕ) → marked x ≡ true → DeclaredIn o x → n' x ≡ n x) → ((k : ℕ) → CalledIn o k → t' k ≡ t k) →
      IsPlaced marked n t within next o → IsPlaced marked n' t' within next o
  placed_as n t n' t' within next NoPiece f g p = tt
  placed_as n t n' t' within next (DeclaresThen y rest) f g p = (
    λ m. f y m (inl refl) ∙ p.0 m,
    placed_as n t n' t' within (after (marked y) next) rest (λ x m h. f x m (inr h)) g p.1,
  )
  placed_as n t n' t' within next (CutThen rest) f g p = placed_as n t n' t' within next rest f g p
  placed_as n t n' t' within next (CallsThen site h rest) f g p =
      (g site (inl refl) ∙ p.0, placed_as n t n' t' within next rest f (λ k c. g k (inr c)) p.1)
  placed_as n t n' t' within next (BlockThen inner rest) f g p = (
    placed_as n t n' t' (within + own_columns marked inner) within inner (λ x m h. f x m (inl h))
        (λ k c. g k (inl c)) p.0,
    placed_as n t n' t' within next rest (λ x m h. f x m (inr h))
        (λ k c. g k (inr c)) p.1,
  )

  -- the marked variables and the sites are in range, and each is there once: then all are placed
  pub placed : (within next : ℕ) (o : Outline) (s : Columns) → ((x : ℕ) → marked x ≡ true → x < length s.numbers) →
      ((k : ℕ) → CalledIn o k → k < length s.taken) → IsOnceIn marked o
      → IsPlaced marked (number_at (share_columns marked within next o s).numbers)
      (number_at (share_columns marked within next o s).taken) within next o
  placed within next NoPiece s f g u = tt
  placed within next (DeclaresThen y rest) s f g u =
      let s1 = noted (marked y) y next s in
      let many = noted_length (marked y) y next s in
      let r = placed within (after (marked y) next) rest s1 (λ x m. let q = f x m in
      omega (arith, q, many)) (λ k c. let q = g k c in let e = ap length (noted_taken (marked y) y next s) in
      omega (arith, q, e)) u.1 in
      subst (λ (c : Columns). IsPlaced marked (number_at c.numbers) (number_at c.taken) within next
      (DeclaresThen y rest)) (sym (shared within next y rest s)) (
        (λ m. number_kept within (after (marked y) next) rest s1 y (u.0 m) ∙ noted_here (marked y) y next s m (f y m)),
        r,
      )
  placed within next (CutThen rest) s f g u = placed within next rest s f g u
  placed within next (CallsThen site h rest) s f g u =
      let s1 : Columns = record { numbers = s.numbers; taken = slice_set s.taken site within } in (
        taken_kept within next rest s1 site u.0 ∙ set_same s.taken site within (g site (inl refl)),
        placed within next rest s1 f (λ k c. let q = g k (inr c) in let e = set_many s.taken site within in
            omega (arith, q, e)) u.1,
      )
  placed within next (BlockThen inner rest) s f g u =
      let inside = within + own_columns marked inner in
      let s1 = share_columns marked inside within inner s in
      let many = numbers_stay inside within inner s in
      let deep = taken_stay inside within inner s in
      let end = share_columns marked within next rest s1 in (
        placed_as (number_at s1.numbers) (number_at s1.taken) (number_at end.numbers) (number_at end.taken) inside
            within inner (λ x m h. number_kept within next rest s1 x (u.0 x m h))
            (λ k c. taken_kept within next rest s1 k (u.1 k c))
            (placed inside within inner s f (λ k c. g k (inl c)) u.2),
        placed within next rest s1 (λ x m. let q = f x m in omega (arith, q, many)) (λ k c. let q = g k (inr c) in
            omega (arith, q, deep)) u.3,
      )
