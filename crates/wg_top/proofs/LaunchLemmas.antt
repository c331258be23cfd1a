-- Launches one after the other.
use Rattle.std.proofs.Common.{◌≡◌, ℕ, zero, suc, ◌+◌, ◌<◌, Bool, List, [], ◌∷◌, ◌++◌, length, map, take, drop, get_or}
use Rattle.std.proofs.Common.{append_assoc, Some, None, refl, sym, zero-add, add_assoc, ◌∙◌, ap, subst, arith}
use Rattle.std.specs.Prelude.{All, slice_get, slice_index_or, sum}
use Rattle.std.proofs.Math.Seq.{take-suc, drop-cons}
use Rattle.std.proofs.lemmas.List.{take-append-drop, map-append, length-map, length-take-le, get_or_default}
use Rattle.wg_num.specs.declared.types.Place.{Place}
use Rattle.cl_model.specs.declared.launch.Bound.{Bound}
use Rattle.cl_model.specs.declared.launch.Bound.TheVariants as bound
use Rattle.cl_model.specs.Objects.{local_arguments}
use Rattle.cl_model.specs.Sizes.{Launch, group_count, item_count}
use Rattle.launch_file.specs.Binding.{total}
use Rattle.lane_code.specs.declared.end.RunEnd.{RunEnd}
use Rattle.lane_code.specs.declared.end.RunEnd.TheVariants as run
use Rattle.lane_code.specs.Program.{Plain}
use Rattle.lane_code.specs.Run.{program_end}
use Rattle.wg_compile.proofs.Sums.{sum-cons}
use Rattle.wg_top.specs.declared.RunError.{RunError}
use Rattle.wg_top.specs.declared.RunError.TheVariants as error
use Rattle.wg_top.specs.CompiledLaunches.{launch_end, LaunchRan, LaunchesRan, EndsBehind, EndsSo, refusal_of}
use Rattle.wg_top.specs.CompiledLaunches.{site_place, start_place}
use Rattle.wg_top.specs.Launches.{all_groups, all_items}

-- what a program means
pub end_is : (p : Plain) (launch : Launch) (before : List (List ℕ)) (end : RunEnd) →
    (program_end p launch before).end ≡ end → (launch_end p launch before).end ≡ end
unfolding launch_end
end_is p launch before end h = h

pub leaves_is : (p : Plain) (launch : Launch) (before after : List (List ℕ)) →
    (program_end p launch before).buffers ≡ after → (launch_end p launch before).buffers ≡ after
unfolding launch_end
leaves_is p launch before after h = h

-- one more launch behind others
ran-snoc : (ps : List Plain) (p : Plain) (launches : List Launch) (launch : Launch)
    (before mid after : List (List ℕ)) → LaunchesRan ps launches before mid → LaunchRan p launch mid after →
    LaunchesRan (ps ++ p ∷ []) (launches ++ launch ∷ []) before after
ran-snoc [] p [] launch before mid after ran one =
    (after, subst (λ (b : List (List ℕ)). LaunchRan p launch b after) ran one, refl)
ran-snoc (q ∷ ps) p (first ∷ launches) launch before mid after ran one =
    (ran.0, ran.1, ran-snoc ps p launches launch ran.0 mid after ran.2 one)
ran-snoc [] p (first ∷ launches) launch before mid after ran one = absurd ran
ran-snoc (q ∷ ps) p [] launch before mid after ran one = absurd ran

-- an end behind others
ends-behind : (ps : List Plain) (p : Plain) (qs : List Plain) (launches : List Launch) (launch : Launch)
    (later : List Launch) (before mid : List (List ℕ)) (end : RunEnd) → LaunchesRan ps launches before mid →
    (launch_end p launch mid).end ≡ end →
    EndsBehind (ps ++ (p ∷ qs)) (launches ++ (launch ∷ later)) before (length launches) end
ends-behind [] p qs [] launch later before mid end ran is =
    subst (λ (b : List (List ℕ)). (launch_end p launch b).end ≡ end) ran is
ends-behind (q ∷ ps) p qs (first ∷ launches) launch later before mid end ran is =
    (ran.0, ran.1, ends-behind ps p qs launches launch later ran.0 mid end ran.2 is)
ends-behind [] p qs (first ∷ launches) launch later before mid end ran is = absurd ran
ends-behind (q ∷ ps) p qs [] launch later before mid end ran is = absurd ran

-- launches that are all done do not end otherwise
pub done_only : (ps : List Plain) (launches : List Launch) (before after : List (List ℕ)) (behind : ℕ)
    (end : RunEnd) → LaunchesRan ps launches before after → EndsBehind ps launches before behind end → end ≡ run.Done
done_only [] [] before after behind end ran ends = absurd ends
done_only (p ∷ ps) (launch ∷ launches) before after zero end ran ends = sym ends ∙ ran.1.done
done_only (p ∷ ps) (launch ∷ launches) before after (suc behind) end ran ends =
    let same : ends.0 ≡ ran.0 = sym ends.1.leaves ∙ ran.1.leaves in
    done_only ps launches ran.0 after behind end ran.2
    (subst (λ (b : List (List ℕ)). EndsBehind ps launches b behind end) same ends.2)
done_only [] (launch ∷ launches) before after behind end ran ends = absurd ran
done_only (p ∷ ps) [] before after behind end ran ends = absurd ran

-- two ends that are not Done are one
pub one_end : (ps : List Plain) (launches : List Launch) (before : List (List ℕ)) (n m : ℕ) (x y : RunEnd) →
    EndsBehind ps launches before n x → EndsBehind ps launches before m y → (x ≡ run.Done → ⊥) → (y ≡ run.Done → ⊥) →
    x ≡ y
one_end [] launches before n m x y a b not_x not_y = absurd a
one_end (p ∷ ps) [] before n m x y a b not_x not_y = absurd a
one_end (p ∷ ps) (launch ∷ launches) before zero zero x y a b not_x not_y = sym a ∙ b
one_end (p ∷ ps) (launch ∷ launches) before zero (suc m) x y a b not_x not_y = absurd (not_x (sym a ∙ b.1.done))
one_end (p ∷ ps) (launch ∷ launches) before (suc n) zero x y a b not_x not_y = absurd (not_y (sym b ∙ a.1.done))
one_end (p ∷ ps) (launch ∷ launches) before (suc n) (suc m) x y a b not_x not_y =
    let same : b.0 ≡ a.0 = sym b.1.leaves ∙ a.1.leaves in
    one_end ps launches a.0 n m x y a.2 (subst (λ (bs : List (List ℕ)). EndsBehind ps launches bs m y) same b.2) not_x
    not_y

-- a sum over a list, with one more at its end
total-snoc : {X : Type 0} (count : X → ℕ) (xs : List X) (x : X) → total count (xs ++ x ∷ []) ≡ total count xs + count x
total-snoc count [] x = omega arith
total-snoc count (first ∷ xs) x = omega (arith, total-snoc count xs x)

-- the first of some things, one more
module _ {X : Type 0} (xs : List X) (k : ℕ) (x : X) (lt : k < length xs) (is : x ≡ get_or xs k x) where
  more : {P : Type 0} (view : X → P) → map view (take (k + 1) xs) ≡ map view (take k xs) ++ view x ∷ []
  more view =
      let next : k + 1 ≡ suc k = omega arith in
      ap (λ n. map view (take n xs)) next ∙
      (ap (map view) (take-suc xs k x lt ∙ ap (λ y. take k xs ++ y ∷ []) (sym is)) ∙
      map-append view (take k xs) (x ∷ []))

  split : {P : Type 0} (view : X → P) → map view xs ≡ map view (take k xs) ++ (view x ∷ map view (drop (suc k) xs))
  split view = ap (map view) (sym (take-append-drop k xs)) ∙
      (map-append view (take k xs) (drop k xs) ∙ ap (λ ys. map view (take k xs) ++ map view ys) (drop-cons xs k x lt ∙
      ap (λ y. y ∷ drop (suc k) xs) (sym is)))

  pub more_groups : (view : X → Launch) →
      all_groups (map view (take (k + 1) xs)) ≡ all_groups (map view (take k xs)) + group_count (view x)
  more_groups view = ap all_groups (more view) ∙ total-snoc group_count (map view (take k xs)) (view x)

  pub more_items : (view : X → Launch) → all_items (map view (take (k + 1) xs)) ≡ all_items (map view (take k xs)) +
      item_count (view x)
  more_items view = ap all_items (more view) ∙ total-snoc item_count (map view (take k xs)) (view x)

  module _ (program : X → Plain) (launch : X → Launch) where
    -- it is done, too
    pub more_ran : (before mid after : List (List ℕ)) →
        LaunchesRan (map program (take k xs)) (map launch (take k xs)) before mid →
        LaunchRan (program x) (launch x) mid after →
        LaunchesRan (map program (take (k + 1) xs)) (map launch (take (k + 1) xs)) before after
    more_ran before mid after ran one =
        subst (λ (ps : List Plain). LaunchesRan ps (map launch (take (k + 1) xs)) before after) (sym (more program))
        (subst (λ (ls : List Launch). LaunchesRan (map program (take k xs) ++ program x ∷ []) ls before after)
        (sym (more launch)) (ran-snoc (map program (take k xs)) (program x) (map launch (take k xs)) (launch x)
        before mid after ran one))

    -- it ends so, behind the others
    ends_there : (before mid : List (List ℕ)) (end : RunEnd) →
        LaunchesRan (map program (take k xs)) (map launch (take k xs)) before mid →
        (launch_end (program x) (launch x) mid).end ≡ end → EndsBehind (map program xs) (map launch xs) before k end
    ends_there before mid end ran is =
        let many : length (map launch (take k xs)) ≡ k =
        length-map (take k xs) launch ∙ length-take-le k xs (omega arith) in
        subst (λ (n : ℕ). EndsBehind (map program xs) (map launch xs) before n end) many
        (subst (λ (ps : List Plain). EndsBehind ps (map launch xs) before (length (map launch (take k xs))) end)
        (sym (split program))
        (subst (λ (ls : List Launch). EndsBehind (map program (take k xs) ++
        (program x ∷ map program (drop (suc k) xs))) ls before (length (map launch (take k xs))) end)
        (sym (split launch))
        (ends-behind (map program (take k xs)) (program x) (map program (drop (suc k) xs)) (map launch (take k xs))
        (launch x) (map launch (drop (suc k) xs)) before mid end ran is)))

    get-behind : {P : Type 0} (ps : List P) (p : P) (qs : List P) → slice_get (ps ++ (p ∷ qs)) (length ps) ≡ Some p
    get-behind [] p qs = refl
    get-behind (q ∷ ps) p qs = get-behind ps p qs

    program_there : slice_get (map program xs) k ≡ Some (program x)
    program_there =
        let many : length (map program (take k xs)) ≡ k =
        length-map (take k xs) program ∙ length-take-le k xs (omega arith) in
        ap (λ ps. slice_get ps k) (split program) ∙
        (ap (λ n. slice_get (map program (take k xs) ++ (program x ∷ map program (drop (suc k) xs))) n)
        (sym many) ∙ get-behind (map program (take k xs)) (program x) (map program (drop (suc k) xs)))

    place_there : (site : ℕ) → slice_index_or (program x).sites site start_place ≡
        site_place (slice_get (map program xs) k) site
    place_there site = ap (λ o. site_place o site) (sym program_there)

    -- the refusal that it leads to
    pub ends_so : (several : Bool) (before mid : List (List ℕ)) (end : RunEnd) (e : RunError) →
        LaunchesRan (map program (take k xs)) (map launch (take k xs)) before mid →
        (launch_end (program x) (launch x) mid).end ≡ end → refusal_of end (k + 1) several (program x).sites ≡
        Some e → EndsSo several (map program xs) (map launch xs) before e
    ends_so several before mid run.Done e ran is refused = let never : ⊥ = cc refused in absurd never
    ends_so several before mid (run.Range group item site) e ran is refused =
        let same : error.Range (k + 1) several group item (slice_index_or (program x).sites site start_place) ≡ e =
        cc refused in
        subst (λ (d : RunError). EndsSo several (map program xs) (map launch xs) before d) same (
          refl,
          record {
            behind = k;
            site = site;
            ends = ends_there before mid (run.Range group item site) ran is;
            number_is = refl;
            place_is = place_there site;
          },
        )
    ends_so several before mid (run.Parted group item site) e ran is refused =
        let same : error.Parted (k + 1) several group item (slice_index_or (program x).sites site start_place) ≡ e =
        cc refused in
        subst (λ (d : RunError). EndsSo several (map program xs) (map launch xs) before d) same (
          refl,
          record {
            behind = k;
            site = site;
            ends = ends_there before mid (run.Parted group item site) ran is;
            number_is = refl;
            place_is = place_there site;
          },
        )
    ends_so several before mid run.Turns e ran is refused =
        let same : error.Turns (k + 1) several ≡ e = cc refused in
        subst (λ (d : RunError). EndsSo several (map program xs) (map launch xs) before d) same (
          refl,
          record { behind = k; ends = ends_there before mid run.Turns ran is; number_is = refl },
        )

-- where none is refused, it is done
pub done_is : (end : RunEnd) (number : ℕ) (several : Bool) (sites : List Place) →
    refusal_of end number several sites ≡ None → end ≡ run.Done
done_is run.Done number several sites none = refl
done_is (run.Range group item site) number several sites none = let never : ⊥ = cc none in absurd never
done_is (run.Parted group item site) number several sites none = let never : ⊥ = cc none in absurd never
done_is run.Turns number several sites none = let never : ⊥ = cc none in absurd never

-- what holds of each holds of one
pub holds_at : {X : Type 0} (P : X → Type 0) (xs : List X) (k : ℕ) (x : X) → k < length xs → x ≡ get_or xs k x →
    All P xs → P x
holds_at P xs k x lt is all = subst P (sym is) (all k x lt)

-- one that was read twice
pub read_twice : {X : Type 0} (xs : List X) (k : ℕ) (x y : X) → k < length xs → x ≡ get_or xs k x →
    y ≡ get_or xs k y → x ≡ y
read_twice xs k x y lt first second = first ∙ (get_or_default xs k x y lt ∙ sym second)

-- ---- local memory

-- the bytes of the arguments so far, and one more
local-append : (xs ys : List Bound) → sum (local_arguments (xs ++ ys)) ≡ sum (local_arguments xs) +
    sum (local_arguments ys)
local-append [] ys = sym (zero-add (sum (local_arguments ys)))
local-append (bound.Buffer b ∷ xs) ys = local-append xs ys
local-append (bound.Value v ∷ xs) ys = local-append xs ys
local-append (bound.Local n ∷ xs) ys =
    sum-cons n (local_arguments (xs ++ ys)) ∙
    (ap (λ k. n + k) (local-append xs ys) ∙
    (sym (add_assoc n (sum (local_arguments xs)) (sum (local_arguments ys))) ∙
    ap (λ k. k + sum (local_arguments ys)) (sym (sum-cons n (local_arguments xs)))))

more_local : (xs : List Bound) (k : ℕ) (x : Bound) → k < length xs → x ≡ get_or xs k x →
    sum (local_arguments (take (k + 1) xs)) ≡ sum (local_arguments (take k xs)) + sum (local_arguments (x ∷ []))
more_local xs k x lt is =
    let next : k + 1 ≡ suc k = omega arith in
    ap (λ n. sum (local_arguments (take n xs))) next ∙
    (ap (λ ys. sum (local_arguments ys)) (take-suc xs k x lt ∙ ap (λ y. take k xs ++ y ∷ []) (sym is)) ∙
    local-append (take k xs) (x ∷ []))

-- the same, by any default
pub more_local_at : (xs : List Bound) (k : ℕ) (d : Bound) → k < length xs →
    sum (local_arguments (take (k + 1) xs)) ≡ sum (local_arguments (take k xs)) +
    sum (local_arguments (get_or xs k d ∷ []))
more_local_at xs k d lt = more_local xs k (get_or xs k d) lt (get_or_default xs k d (get_or xs k d) lt)

-- ---- the lengths of buffers

pub lengths_twice : {X : Type 0} (f : X → List ℕ) (xs : List X) →
    map (λ (b : List ℕ). length b) (map f xs) ≡ map (λ x. length (f x)) xs
lengths_twice f [] = refl
lengths_twice f (x ∷ xs) = ap (λ ns. length (f x) ∷ ns) (lengths_twice f xs)

-- ---- things that are made of others, one after the other

-- one more is made, of the first of those that are left
pub made_next : {X Y V : Type 0} (view : X → V) (old : Y → V) (xs new : List X) (ys rest : List Y) (x : X) (y : Y)
    (all : List V) → new ≡ xs ++ x ∷ [] → ys ≡ y ∷ rest → view x ≡ old y → map view xs ++ map old ys ≡ all →
    map view new ++ map old rest ≡ all
made_next view old xs new ys rest x y all pushed left same before =
    ap (λ vs. map view vs ++ map old rest) pushed ∙ (ap (λ vs. vs ++ map old rest) (map-append view xs (x ∷ []))
    ∙ (append_assoc (map view xs) (view x ∷ []) (map old rest) ∙ (ap (λ v. map view xs ++ (v ∷ map old rest)) same ∙
    (sym (ap (λ vs. map view xs ++ map old vs) left) ∙ before))))

-- the same, of what is seen itself
pub taken_next : {X V : Type 0} (view : X → V) (xs new : List X) (ys rest : List V) (x : X) (y : V) (all : List V) →
    new ≡ xs ++ x ∷ [] → ys ≡ y ∷ rest → view x ≡ y → map view xs ++ ys ≡ all → map view new ++ rest ≡ all
taken_next view xs new ys rest x y all pushed left same before =
    ap (λ vs. map view vs ++ rest) pushed ∙ (ap (λ vs. vs ++ rest) (map-append view xs (x ∷ []))
    ∙ (append_assoc (map view xs) (view x ∷ []) rest ∙
    (ap (λ v. map view xs ++ (v ∷ rest)) same ∙ (sym (ap (λ vs. map view xs ++ vs) left) ∙ before))))
