-- What each step of lane code leaves in the registers, read lane by lane.
use Rattle.std.proofs.Common.{◌≡◌, ℕ, zero, suc, ◌+◌, ◌<◌, List, [], ◌∷◌, length, Some, slice_get, refl, sym, ap, ◌∙◌}
use Rattle.std.proofs.Common.{subst, arith, cond}
use Rattle.std.specs.Prelude.{slice_index_or, nat_eq, nat_lt, ◌&&◌}
use Rattle.std.specs.Prelude.{Bool as Test, true, false}
use Rattle.std.proofs.lemmas.Bool.{and_parts, true≢false, ltb-true, eq-eqb, ne_eqb}
use Rattle.std.proofs.lemmas.Option.{none-some, same_Some}
use Rattle.std.proofs.lemmas.Simd.{length-sel_l}
use Rattle.lane_values.specs.Lanes.{zip3}
use Rattle.lane_code.specs.declared.step.Bank.{Bank}
use Rattle.lane_code.specs.declared.step.Bank.TheVariants.{Narrow, Wide, Mask, Scalar}
use Rattle.lane_code.specs.declared.step.Reg.{Reg}
use Rattle.lane_code.specs.declared.step.Step.{Step}
use Rattle.lane_code.specs.declared.code.Counts.{Counts}
use Rattle.lane_code.specs.Registers.{Registers, lane_count, lanes_in, lanes_of, with_lanes, mask_of, with_mask}
use Rattle.lane_code.specs.Registers.{written}
use Rattle.lane_code.specs.Fits.{is_below, keeps_mask_0, is_well, is_code_step, all_steps, is_code}
use Rattle.lane_laws.specs.Reading.{mask_at, narrow_at, wide_at, NarrowSet, WideSet}
use Rattle.lane_laws.proofs.Reading.{narrow_written, wide_written, narrow_filled, wide_filled, mask_written}
use Rattle.lane_laws.proofs.Reading.{narrow_shape, wide_shape, mask_shape}
use Rattle.mask_lower.specs.Banks.{reg, mask_reg}
use Rattle.mask_lower_correct.specs.View.{is_lane, Shaped, Wrote, Masked}

-- ---- steps of a code are well

pub well_at : (counts : Counts) (end : ℕ) (steps : List Step) (place p : ℕ) (s : Step) →
    all_steps (is_code_step counts end) place steps ≡ true → slice_get steps p ≡ Some s →
    is_code_step counts end (place + p) s ≡ true
well_at counts end [] place p s e at = absurd (none-some s at)
well_at counts end (x ∷ steps) place zero s e at =
    let same : x ≡ s = same_Some x s at in
    let n : place ≡ place + 0 = omega arith in
    subst (λ k. is_code_step counts end k s ≡ true) n (subst (λ y. is_code_step counts end place y ≡ true) same
    (and_parts (is_code_step counts end place x) _ e).0)
well_at counts end (x ∷ steps) place (suc p) s e at =
    let n : suc place + p ≡ place + suc p = omega arith in
    subst (λ k. is_code_step counts end k s ≡ true) n
    (well_at counts end steps (suc place) p s (and_parts (is_code_step counts end place x) _ e).1 at)

-- the step at a place of a code is well there
pub code_well : (counts : Counts) (code : List Step) (p : ℕ) (s : Step) → is_code counts code ≡ true →
    slice_get code p ≡ Some s → is_well counts (length code) p s ≡ true
code_well counts code p s e at =
    let n : 0 + p ≡ p = omega arith in
    let step = well_at counts (length code) code 0 p s e at in
    subst (λ k. is_well counts (length code) k s ≡ true) n
    (and_parts (keeps_mask_0 s) (is_well counts (length code) (0 + p) s) step).1

-- ---- writes

pub lane_count_is : (width : ℕ) (b : Bank) → is_lane b ≡ true → lane_count width b ≡ width
lane_count_is width Narrow e = refl
lane_count_is width Wide e = refl
lane_count_is width Mask e = absurd (true≢false (sym e))
lane_count_is width Scalar e = absurd (true≢false (sym e))

module _ (c : Counts) (width : ℕ) (r : Registers) (shape : Shaped c width r) where
  -- what a register of numbers that is named as a bank and a number
  pub lanes_length : (x : Reg) → is_lane x.bank ≡ true → is_below c x ≡ true → length (lanes_of r x) ≡ width
  lanes_length x b lt = go x.bank x.number b lt
    where
      go : (b : Bank) (n : ℕ) → is_lane b ≡ true → nat_lt n (Rattle.lane_code.specs.Fits.count_of c b) ≡ true →
          length (lanes_in r b n) ≡ width
      go Narrow n b lt = shape.each_narrow n (ltb-true n c.narrow lt)
      go Wide n b lt = shape.each_wide n (ltb-true n c.wide lt)
      go Mask n b lt = absurd (true≢false (sym b))
      go Scalar n b lt = absurd (true≢false (sym b))

  pub mask_length : (m : ℕ) → is_below c (mask_reg m) ≡ true → length (mask_of r (mask_reg m)) ≡ width
  mask_length m lt = shape.each_mask m (ltb-true m c.masks lt)

  from_narrow : (n : ℕ) (active : ℕ → Test) (value : ℕ → ℕ) (after : Registers) →
      NarrowSet width r n active value after → Shaped c width after → Wrote c width r (reg Narrow n) active value after
  from_narrow n active value after s sh = record {
    here = λ l lt on. s.narrow n l lt ∙ pick_here n l on;
    idle = λ x l lt b off. idle x.bank x.number l lt b off;
    there = λ x l lt b d. there x.bank x.number l lt b d;
    masks = s.masks;
    shape = sh;
  }
    where
      pick_here : (n l : ℕ) → active l ≡ true → cond (nat_eq n n && active l) (value l) (narrow_at r n l) ≡ value l
      pick_here n l on = ap (λ b. cond (b && active l) (value l) (narrow_at r n l)) (eq-eqb n n refl) ∙
          ap (λ b. cond b (value l) (narrow_at r n l)) on

      off_here : (k l : ℕ) (b : Test) → active l ≡ false → cond (b && active l) (value l) (narrow_at r k l) ≡
          narrow_at r k l
      off_here k l true off = ap (λ b. cond b (value l) (narrow_at r k l)) off
      off_here k l false off = refl

      idle : (b : Bank) (k l : ℕ) → l < width → is_lane b ≡ true → active l ≡ false →
          slice_index_or (lanes_in after b k) l 0 ≡ slice_index_or (lanes_in r b k) l 0
      idle Narrow k l lt e off = s.narrow k l lt ∙ off_here k l (nat_eq k n) off
      idle Wide k l lt e off = ap (λ rows. slice_index_or (slice_index_or rows k []) l 0) s.wide
      idle Mask k l lt e off = absurd (true≢false (sym e))
      idle Scalar k l lt e off = absurd (true≢false (sym e))

      there : (b : Bank) (k l : ℕ) → l < width → is_lane b ≡ true → (b ≡ Narrow → k ≡ n → ⊥) →
          slice_index_or (lanes_in after b k) l 0 ≡ slice_index_or (lanes_in r b k) l 0
      there Narrow k l lt e d =
          s.narrow k l lt ∙ ap (λ b. cond (b && active l) (value l) (narrow_at r k l)) (ne_eqb k n (d refl))
      there Wide k l lt e d = ap (λ rows. slice_index_or (slice_index_or rows k []) l 0) s.wide
      there Mask k l lt e d = absurd (true≢false (sym e))
      there Scalar k l lt e d = absurd (true≢false (sym e))

  from_wide : (n : ℕ) (active : ℕ → Test) (value : ℕ → ℕ) (after : Registers) → WideSet width r n active value after →
      Shaped c width after → Wrote c width r (reg Wide n) active value after
  from_wide n active value after s sh = record {
    here = λ l lt on. s.wide n l lt ∙ pick_here n l on;
    idle = λ x l lt b off. idle x.bank x.number l lt b off;
    there = λ x l lt b d. there x.bank x.number l lt b d;
    masks = s.masks;
    shape = sh;
  }
    where
      pick_here : (n l : ℕ) → active l ≡ true → cond (nat_eq n n && active l) (value l) (wide_at r n l) ≡ value l
      pick_here n l on = ap (λ b. cond (b && active l) (value l) (wide_at r n l)) (eq-eqb n n refl) ∙
          ap (λ b. cond b (value l) (wide_at r n l)) on

      off_here : (k l : ℕ) (b : Test) → active l ≡ false →
          cond (b && active l) (value l) (wide_at r k l) ≡ wide_at r k l
      off_here k l true off = ap (λ b. cond b (value l) (wide_at r k l)) off
      off_here k l false off = refl

      idle : (b : Bank) (k l : ℕ) → l < width → is_lane b ≡ true → active l ≡ false →
          slice_index_or (lanes_in after b k) l 0 ≡ slice_index_or (lanes_in r b k) l 0
      idle Wide k l lt e off = s.wide k l lt ∙ off_here k l (nat_eq k n) off
      idle Narrow k l lt e off = ap (λ rows. slice_index_or (slice_index_or rows k []) l 0) s.narrow
      idle Mask k l lt e off = absurd (true≢false (sym e))
      idle Scalar k l lt e off = absurd (true≢false (sym e))

      there : (b : Bank) (k l : ℕ) → l < width → is_lane b ≡ true → (b ≡ Wide → k ≡ n → ⊥) →
          slice_index_or (lanes_in after b k) l 0 ≡ slice_index_or (lanes_in r b k) l 0
      there Wide k l lt e d =
          s.wide k l lt ∙ ap (λ b. cond (b && active l) (value l) (wide_at r k l)) (ne_eqb k n (d refl))
      there Narrow k l lt e d = ap (λ rows. slice_index_or (slice_index_or rows k []) l 0) s.narrow
      there Mask k l lt e d = absurd (true≢false (sym e))
      there Scalar k l lt e d = absurd (true≢false (sym e))

  -- lanes that are written under a mask
  pub writes_wrote : (to : Reg) (m : ℕ) (lanes : List ℕ) → is_lane to.bank ≡ true → is_below c to ≡ true →
      is_below c (mask_reg m) ≡ true → length lanes ≡ width →
      Wrote c width r to (λ l. mask_at r m l) (λ l. slice_index_or lanes l 0) (written r to (mask_reg m) lanes)
  writes_wrote to m lanes b lt ltm e = go to.bank to.number b lt
    where
      ltm' : m < c.masks
      ltm' = ltb-true m c.masks ltm

      go : (bank : Bank) (n : ℕ) → is_lane bank ≡ true → nat_lt n (Rattle.lane_code.specs.Fits.count_of c bank) ≡
          true → Wrote c width r (reg bank n) (λ l. mask_at r m l) (λ l. slice_index_or lanes l 0)
          (written r (reg bank n) (mask_reg m) lanes)
      go Narrow n b lt =
          let lt' = ltb-true n c.narrow lt in
          let row = shape.each_narrow n lt' in
          let ms = shape.each_mask m ltm' in
          from_narrow n (λ l. mask_at r m l) (λ l. slice_index_or lanes l 0) _
          (narrow_written c.narrow c.wide c.masks c.scalars width r shape n (mask_reg m) lanes lt' ltm' e)
          (narrow_shape c.narrow c.wide c.masks c.scalars width r shape n _ lt'
          (length-sel_l (mask_of r (mask_reg m)) lanes (lanes_in r Narrow n) (ms ∙ sym e) (ms ∙ sym row) ∙ ms))
      go Wide n b lt =
          let lt' = ltb-true n c.wide lt in
          let row = shape.each_wide n lt' in
          let ms = shape.each_mask m ltm' in
          from_wide n (λ l. mask_at r m l) (λ l. slice_index_or lanes l 0) _
          (wide_written c.narrow c.wide c.masks c.scalars width r shape n (mask_reg m) lanes lt' ltm' e)
          (wide_shape c.narrow c.wide c.masks c.scalars width r shape n _ lt'
          (length-sel_l (mask_of r (mask_reg m)) lanes (lanes_in r Wide n) (ms ∙ sym e) (ms ∙ sym row) ∙ ms))
      go Mask n b lt = absurd (true≢false (sym b))
      go Scalar n b lt = absurd (true≢false (sym b))

  -- all lanes
  pub fills_wrote : (to : Reg) (lanes : List ℕ) → is_lane to.bank ≡ true → is_below c to ≡ true →
      length lanes ≡ width → Wrote c width r to (λ l. true) (λ l. slice_index_or lanes l 0) (with_lanes r to lanes)
  fills_wrote to lanes b lt e = go to.bank to.number b lt
    where
      go : (bank : Bank) (n : ℕ) → is_lane bank ≡ true → nat_lt n (Rattle.lane_code.specs.Fits.count_of c bank) ≡
          true → Wrote c width r (reg bank n) (λ l. true) (λ l. slice_index_or lanes l 0)
          (with_lanes r (reg bank n) lanes)
      go Narrow n b lt =
          let lt' = ltb-true n c.narrow lt in
          from_narrow n (λ l. true) (λ l. slice_index_or lanes l 0) _ (narrow_filled c.narrow c.wide c.masks c.scalars
          width r shape n lanes lt') (narrow_shape c.narrow c.wide c.masks c.scalars width r shape n lanes lt' e)
      go Wide n b lt =
          let lt' = ltb-true n c.wide lt in
          from_wide n (λ l. true) (λ l. slice_index_or lanes l 0) _ (wide_filled c.narrow c.wide c.masks c.scalars
          width r shape n lanes lt') (wide_shape c.narrow c.wide c.masks c.scalars width r shape n lanes lt' e)
      go Mask n b lt = absurd (true≢false (sym b))
      go Scalar n b lt = absurd (true≢false (sym b))

  -- a mask
  pub mask_masked : (to : ℕ) (lanes : List Test) → is_below c (mask_reg to) ≡ true → length lanes ≡ width →
      Masked c width r to (λ l. slice_index_or lanes l false) (with_mask r (mask_reg to) lanes)
  mask_masked to lanes lt e =
      let lt' = ltb-true to c.masks lt in
      let s = mask_written c.narrow c.wide c.masks c.scalars width r shape (mask_reg to) lanes lt' in
      record {
        here = λ l ltl. s.masks to l ltl ∙
            ap (λ b. cond b (slice_index_or lanes l false) (mask_at r to l)) (eq-eqb to to refl);
        there = λ k l ltl ne. s.masks k l ltl ∙
            ap (λ b. cond b (slice_index_or lanes l false) (mask_at r k l)) (ne_eqb k to ne);
        numbers = λ x l. same x.bank x.number l;
        shape = mask_shape c.narrow c.wide c.masks c.scalars width r shape (mask_reg to) lanes lt' e;
      }
    where
      same : (b : Bank) (k l : ℕ) → slice_index_or (lanes_in (with_mask r (mask_reg to) lanes) b k) l 0 ≡
          slice_index_or (lanes_in r b k) l 0
      same Narrow k l = refl
      same Wide k l = refl
      same Mask k l = refl
      same Scalar k l = refl

-- ---- values of lists

pub zip3_read : {A B C D : Type 0} (f : A → B → C → D) (xs : List A) (ys : List B) (zs : List C) (i : ℕ) (a : A)
    (b : B) (c : C) (d : D) → i < length xs → i < length ys → i < length zs →
    slice_index_or (zip3 f xs ys zs) i d ≡ f (slice_index_or xs i a) (slice_index_or ys i b) (slice_index_or zs i c)
zip3_read f [] ys zs i a b c d l m n = absurd (omega arith)
zip3_read f (x ∷ xs) [] zs i a b c d l m n = absurd (omega arith)
zip3_read f (x ∷ xs) (y ∷ ys) [] i a b c d l m n = absurd (omega arith)
zip3_read f (x ∷ xs) (y ∷ ys) (z ∷ zs) zero a b c d l m n = refl
zip3_read f (x ∷ xs) (y ∷ ys) (z ∷ zs) (suc i) a b c d l m n =
    zip3_read f xs ys zs i a b c d (omega arith) (omega arith) (omega arith)

pub zip3_length : {A B C D : Type 0} (f : A → B → C → D) (xs : List A) (ys : List B) (zs : List C) →
    length xs ≡ length ys → length xs ≡ length zs → length (zip3 f xs ys zs) ≡ length xs
zip3_length f [] ys zs e e' = refl
zip3_length f (x ∷ xs) [] zs e e' = absurd (omega arith)
zip3_length f (x ∷ xs) (y ∷ ys) [] e e' = absurd (omega arith)
zip3_length f (x ∷ xs) (y ∷ ys) (z ∷ zs) e e' = ap suc (zip3_length f xs ys zs (omega arith) (omega arith))
