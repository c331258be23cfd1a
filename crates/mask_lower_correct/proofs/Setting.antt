-- What a region's code gets from homes and what it puts into them.
use Rattle.std.proofs.Common.{◌≡◌, ℕ, List, [], ◌∷◌, ◌++◌, refl, sym, ap, ◌∙◌, subst, inl, inr, ⊎_elim, cond}
use Rattle.std.specs.Prelude.{◌&&◌, ◌||◌, not, nat_eq}
use Rattle.std.specs.Prelude.{Bool as Test, true, false}
use Rattle.std.proofs.lemmas.Bool.{true≢false, or_left, or_right}
use Rattle.cl_model.specs.Lists.{IsOneOf}
use Rattle.kir.specs.Tree.{Lines, NoLine, SetThen, LoadThen, StoreThen, ClearThen, IfThen, LoopThen, BarrierThen}
use Rattle.kir.specs.Places.{Tasks}
use Rattle.kir.specs.Live.{reads, some_reads, work_reads, live_in, live_now, live_behind}
use Rattle.regions.specs.Tree.{RegionOf}
use Rattle.regions.specs.Spans.{Spans, piece, whole, from_answer}
use Rattle.kir_uniform.specs.Uniform.{sets_in}
use Rattle.kir_uniform.proofs.Living.{or_either, turned}
use Rattle.mask_lower_correct.proofs.Living.{joined_live}
use Rattle.mask_lower.specs.Atoms.{atoms_of, atoms_in}
use Rattle.mask_lower.specs.Homes.{sets_first, put_cells}
use Rattle.mask_lower_correct.proofs.Frames.{some_left, some_right}

-- a cell that lines set is named by them
pub set_named : (c : ℕ) (lines : Lines) → sets_in c lines ≡ true → some_reads c (atoms_in lines) ≡ true
set_named c NoLine h = absurd (true≢false (sym h))
set_named c (SetThen to work rest) h = ⊎_elim
    (λ here. or_left (nat_eq c to) (some_reads c (atoms_of work ++ atoms_in rest)) (sym (turned to c) ∙ here))
    (λ more. or_right (nat_eq c to) (some_reads c (atoms_of work ++ atoms_in rest))
    (some_right c (atoms_of work) (atoms_in rest) (set_named c rest more)))
    (or_either (nat_eq to c) (sets_in c rest) h)
set_named c (LoadThen site to element root index rest) h = ⊎_elim
    (λ here. or_left (nat_eq c to) (some_reads c (index ∷ atoms_in rest)) (sym (turned to c) ∙ here))
    (λ more. or_right (nat_eq c to) (some_reads c (index ∷ atoms_in rest))
    (or_right (reads c index) (some_reads c (atoms_in rest)) (set_named c rest more)))
    (or_either (nat_eq to c) (sets_in c rest) h)
set_named c (StoreThen site element root index from rest) h =
    or_right (reads c index) (some_reads c (from ∷ atoms_in rest))
    (or_right (reads c from) (some_reads c (atoms_in rest)) (set_named c rest h))
set_named c (ClearThen array rest) h = set_named c rest h
set_named c (IfThen site test chosen other rest) h =
    or_right (reads c test) (some_reads c (atoms_in chosen ++ (atoms_in other ++ atoms_in rest)))
    (⊎_elim
    (λ inside. ⊎_elim
    (λ yes. some_left c (atoms_in chosen) (atoms_in other ++ atoms_in rest) (set_named c chosen yes))
    (λ no. some_right c (atoms_in chosen) (atoms_in other ++ atoms_in rest)
    (some_left c (atoms_in other) (atoms_in rest) (set_named c other no)))
    (or_either (sets_in c chosen) (sets_in c other) inside))
    (λ more. some_right c (atoms_in chosen) (atoms_in other ++ atoms_in rest)
    (some_right c (atoms_in other) (atoms_in rest) (set_named c rest more)))
    (or_either (sets_in c chosen || sets_in c other) (sets_in c rest) h))
set_named c (LoopThen site test_first test answer body rest) h =
    ⊎_elim
    (λ inside. ⊎_elim
    (λ in_test. some_right c (atoms_in body) (atoms_in test ++ (answer ∷ atoms_in rest))
    (some_left c (atoms_in test) (answer ∷ atoms_in rest) (set_named c test in_test)))
    (λ in_body. some_left c (atoms_in body) (atoms_in test ++ (answer ∷ atoms_in rest)) (set_named c body in_body))
    (or_either (sets_in c test) (sets_in c body) inside))
    (λ more. some_right c (atoms_in body) (atoms_in test ++ (answer ∷ atoms_in rest))
    (some_right c (atoms_in test) (answer ∷ atoms_in rest)
    (or_right (reads c answer) (some_reads c (atoms_in rest)) (set_named c rest more))))
    (or_either (sets_in c test || sets_in c body) (sets_in c rest) h)
set_named c (BarrierThen site rest) h = set_named c rest h

-- the cells that are put are those of the list that are set
put_by : (lines : Lines) (live : List ℕ) (d c : ℕ) →
    (IsOneOf (put_cells lines live) c → IsOneOf live c × (sets_in c lines ≡ true)) → (b : Test) →
    sets_in d lines ≡ b → IsOneOf (cond b (d ∷ put_cells lines live) (put_cells lines live)) c →
    IsOneOf (d ∷ live) c × (sets_in c lines ≡ true)
put_by lines live d c others true is h = ⊎_elim (λ same. (inl same, subst (λ k. sets_in k lines ≡ true) same is))
    (λ more. let p = others more in (inr p.0, p.1)) h
put_by lines live d c others false is h = let p = others h in (inr p.0, p.1)

pub put_of : (lines : Lines) (live : List ℕ) (c : ℕ) → IsOneOf (put_cells lines live) c → IsOneOf live c ×
    (sets_in c lines ≡ true)
put_of lines [] c h = absurd h
put_of lines (d ∷ live) c h = put_by lines live d c (put_of lines live c) (sets_in d lines) refl h

there_by : (lines : Lines) (live : List ℕ) (d c : ℕ) → sets_in c lines ≡ true →
    (IsOneOf live c → IsOneOf (put_cells lines live) c) → (b : Test) → sets_in d lines ≡ b → IsOneOf (d ∷ live) c →
    IsOneOf (cond b (d ∷ put_cells lines live) (put_cells lines live)) c
there_by lines live d c set others true is h = ⊎_elim (λ same. inl same) (λ more. inr (others more)) h
there_by lines live d c set others false is h =
    ⊎_elim (λ same. absurd (true≢false (sym set ∙ ap (λ k. sets_in k lines) (sym same) ∙ is))) (λ more. others more) h

pub put_there : (lines : Lines) (live : List ℕ) (c : ℕ) → IsOneOf live c → sets_in c lines ≡ true →
    IsOneOf (put_cells lines live) c
put_there lines [] c h set = absurd h
put_there lines (d ∷ live) c h set =
    there_by lines live d c set (λ more. put_there lines live c more set) (sets_in d lines) refl h

-- ---- a cell that is set first is not live before

-- one line
set_front : (r t s l : Test) → (l ≡ true → s ≡ false) → (r || (not t && l)) ≡ true → (not r && (t || s)) ≡ false
set_front true t s l h e = refl
set_front false true s l h e = absurd (true≢false (sym e))
set_front false false s l h e = h e

store_front : (r s l : Test) → (l ≡ true → s ≡ false) → (r || l) ≡ true → (not r && s) ≡ false
store_front true s l h e = refl
store_front false s l h e = h e

list_front : (c : ℕ) (lines : Lines) (a : Test) → live_in c lines a ≡ true → sets_first c lines ≡ false
list_front c NoLine a h = refl
list_front c (SetThen to work rest) a h =
    set_front (work_reads c work) (nat_eq c to) (sets_first c rest) (live_in c rest a) (list_front c rest a) h
list_front c (LoadThen site to element root index rest) a h =
    set_front (reads c index) (nat_eq c to) (sets_first c rest) (live_in c rest a) (list_front c rest a) h
list_front c (StoreThen site element root index from rest) a h =
    store_front (reads c index || reads c from) (sets_first c rest) (live_in c rest a) (list_front c rest a) h
list_front c (ClearThen array rest) a h = list_front c rest a h
list_front c (IfThen site test chosen other rest) a h = refl
list_front c (LoopThen site test_first test answer body rest) a h = refl
list_front c (BarrierThen site rest) a h = list_front c rest a h

pub first_unread : (c : ℕ) (region : RegionOf) (f e : Tasks) → Spans region f e → live_behind c f ≡ true →
    sets_first c region.lines ≡ false
first_unread c region _ _ (piece {tail = tail} {k = k} plain) h =
    list_front c region.lines (live_in c tail (live_now c k)) (sym (joined_live c region.lines tail (live_now c k)) ∙ h)
first_unread c region _ e (whole plain) h = list_front c region.lines (live_now c e) h
first_unread c region _ e (from_answer votes is_loop) h = ap (sets_first c) is_loop
