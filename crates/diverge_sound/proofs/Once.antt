-- A variable that does not vary agrees: the theorems on one function, discharged by the depth of calls, at the
-- histories of a launch.
use Rattle.std.proofs.Common.{◌≡◌, ℕ, zero, suc, ◌/◌, ◌%◌, ◌<◌, ℤ, pos, negsuc, cond, nat_lt, take, true, false, List}
use Rattle.std.proofs.Common.{[], ◌∷◌, ◌++◌, length, Option, Some, None, inl, inr, refl, sym, ap, ◌∙◌, subst, arith}
use Rattle.std.proofs.Common.{append_assoc}
use Rattle.std.proofs.lemmas.Option.{none-some, same_Some}
use Rattle.work_items.specs.Items.{Next, Waits, Begins, Loads, Stores}
use Rattle.work_items.specs.Histories.{Deed, Passed, Turned, Read, Wrote, DoesOnce, History, nothing, going, doing}
use Rattle.cl_model.specs.declared.program.Root.{Root}
use Rattle.cl_model.specs.declared.program.Query.{Query}
use Rattle.cl_model.specs.declared.program.Query.TheVariants.{WorkDim, GlobalId, LocalId, GroupId, GlobalSize}
use Rattle.cl_model.specs.declared.program.Query.TheVariants.{LocalSize, NumGroups, GlobalOffset}
use Rattle.cl_model.specs.Tree.{Call, Expressions, Block, Program}
use Rattle.cl_model.specs.Sizes.{Launch, group_of, groups_at, groups_of, product, answer_within, answer_outside}
use Rattle.cl_model.specs.Sizes.{answer_of}
use Rattle.cl_model.specs.Calls.{function_at}
use Rattle.cl_model.specs.Task.{Into, Point, Task, InCall, Frame, Item, first_point}
use Rattle.cl_model.specs.Steps.{last, nth, first_next, item_next}
use Rattle.cl_model.specs.Meaning.{MayBeTold, ItemHistory, lengths_of, kernel_frame, start_item}
use Rattle.cl_model.specs.Valid.{Scope, numbers_below, CallsEnd, IsValid}
use Rattle.cl_model.specs.Fitting.{FitsProgram}
use Rattle.cl_model.specs.Varying.{is_own, AVariable, AResult, Varies}
use Rattle.cl_model.specs.Agreement.{Owned, IsInBody, held_in, Agrees}
use Rattle.diverge_sound.proofs.Ran.{Stand, Held, How, Normal, Broke, Continued, Returned, Who, here, Exec, Comes}
use Rattle.diverge_sound.proofs.Keeps.{Answer, Cell, look, gives}
use Rattle.diverge_sound.proofs.Exits.{same_how, return_held, Leaves, all_leave}
use Rattle.diverge_sound.proofs.Parts.{GoodRun}
use Rattle.diverge_sound.proofs.Values.{InBody, UnderBody, BackBody, Alike, Two}
use Rattle.diverge_sound.proofs.Endings.{Part, end_alike}
use Rattle.diverge_sound.proofs.Points.{finds, finds_before, finds_held, FoundAlike, VO, TwoPoints, comes_alike}
use Rattle.diverge_sound.proofs.Deep.{first_held, given, IsEntered, CallsAt, PointsAt, who, Leads, Past}
use Rattle.diverge_sound.proofs.Inside.{Called, CallRuns, CallsRun}
use Rattle.diverge_sound.proofs.Through.{left, runs}
use Rattle.diverge_sound.proofs.Nesting.{callee_ends, ends_deeper, least_depth, scoped_body, exits_body}
use Rattle.diverge_sound.proofs.Constants.{SameConstants, loads_alike, entered_same, kernel_same}
use Rattle.diverge_sound.proofs.Callers.{comes_lone}

-- what a call gives, by how its body ends

given_alike : (how : How) (end end' : Held) → look end Answer ≡ look end' Answer → given how end ≡ given how end'
given_alike Normal end end' h = refl
given_alike Broke end end' h = refl
given_alike Continued end end' h = refl
given_alike Returned end end' h = h

given_none : (how : How) (end : Held) → (how ≡ Returned → ⊥) → given how end ≡ pos 0
given_none Normal end h = refl
given_none Broke end h = refl
given_none Continued end h = refl
given_none Returned end h = absurd (h refl)

-- work-item functions but the ids of an item give items of one group the same
asked_within : (launch : Launch) (one other : ℕ) → group_of launch one ≡ group_of launch other →
    (what : Query) (d : ℕ) → is_own what ≡ false → answer_within launch one what d ≡ answer_within launch other what d
asked_within launch one other same WorkDim d h = refl
asked_within launch one other same GlobalId d h = cc h
asked_within launch one other same LocalId d h = cc h
asked_within launch one other same GroupId d h =
    ap (λ (g : ℕ). g / product (take d (groups_of launch)) % groups_at launch d) same
asked_within launch one other same GlobalSize d h = refl
asked_within launch one other same LocalSize d h = refl
asked_within launch one other same NumGroups d h = refl
asked_within launch one other same GlobalOffset d h = refl

asked : (launch : Launch) (one other : ℕ) → group_of launch one ≡ group_of launch other → (what : Query) (d : ℤ) →
    is_own what ≡ false → answer_of launch one what d ≡ answer_of launch other what d
asked launch one other same what (pos d) h =
    ap (λ n. pos (cond (nat_lt d 3) n (answer_outside launch what))) (asked_within launch one other same what d h)
asked launch one other same what (negsuc d) h = refl

module _ (program : Program) (launch : Launch) (buffers : List (List ℕ)) (valid : IsValid program) where
  abbrev pub scope_of : ℕ → Scope
  scope_of g = numbers_below (function_at program g).parameters

  pub good_body : (g : ℕ) → GoodRun (InBody program g) (UnderBody program g) (BackBody program g) (scope_of g)
      (Block (function_at program g).body)
  good_body g = record { parts = λ a m. m; under = λ a m. m; back = λ a m. m; names = scoped_body program valid g }

  pub part_body : (g : ℕ) → Part program g (gives (Block (function_at program g).body))
  part_body g Answer un = un
  part_body g (Cell x) un = un

  module _ (one other : ℕ) (same : group_of launch one ≡ group_of launch other) where
    abbrev pub One : ℕ → Frame → Who
    One d frame = who program launch buffers one d frame

    abbrev pub Two' : ℕ → Frame → Who
    Two' d frame = who program launch buffers other d frame

    pub start_alike : (g : ℕ) (frame frame' : Frame) (roots : List (Option Root)) (args args' : List ℤ)
        (top top' : Frame) → IsEntered program launch one frame g roots args top →
        IsEntered program launch other frame' g roots args' top'
        → ((n : ℕ) → (Varies program (AVariable g n) → ⊥) → nth args n ≡ nth args' n) →
        Alike program g (scope_of g) (first_held top) (first_held top')
    start_alike g frame frame' roots args args' top top' en en' al Answer has nv = refl
    start_alike g frame frame' roots args args' top top' en en' al (Cell x) has nv =
        en.variables x ∙ al x nv ∙ sym (en'.variables x)

    -- what calls of one site give
    abbrev pub CallsAlike : ℕ → ℕ → ℕ → Frame → Frame → Type 0
    CallsAlike d d' f frame frame' =
        (site g : ℕ) (roots : List (Option Root)) (es : Expressions) → InBody program f (Call site g roots es) →
        (args args' : List ℤ) (x x' : ℤ) → ((n : ℕ) → (Varies program (AVariable g n) → ⊥) →
        nth args n ≡ nth args' n)
        → CallsAt program launch buffers one d frame site g roots args x →
        CallsAt program launch buffers other d' frame' site g roots args' x' → (Varies program (AResult g) → ⊥) →
        x ≡ x'

    pub two_with : (d d' m f : ℕ) (frame frame' : Frame) → SameConstants program launch buffers valid f frame frame' →
        CallsEnd program (suc m) f → (CallsEnd program m program.kernel → ⊥) → CallsAlike d d' f frame frame' →
        Two program f (One d frame) (Two' d' frame')
    two_with d d' m f frame frame' sc ends low calls = record {
      asks = asked launch one other same;
      loads = loads_alike program launch buffers valid f one other frame frame' sc;
      calls = calls;
      no_kernel = λ site g roots es inside q.
          low (subst (CallsEnd program m) q (callee_ends program m f site g roots es ends inside));
    }

    pub calls_alike : (d d' m f : ℕ) (frame frame' : Frame) →
        SameConstants program launch buffers valid f frame frame' → CallsEnd program (suc m) f →
        (CallsEnd program m program.kernel → ⊥) → CallsAlike d d' f frame frame'
    calls_alike zero d' m f frame frame' sc ends low site g roots es inside args args' x x' al c c' nv = absurd c
    calls_alike (suc d) zero m f frame frame' sc ends low site g roots es inside args args' x x' al c c' nv = absurd c'
    calls_alike (suc d) (suc d') zero f frame frame' sc ends low site g roots es inside args args' x x' al c c' nv =
        absurd (callee_ends program zero f site g roots es ends inside)
    calls_alike (suc d) (suc d') (suc m) f frame frame' sc ends low site g roots es inside args args' x x' al (
      top,
      how,
      end,
      en,
      e,
      is,
    ) (top', how', end', en', e', is') nv =
        let sc' = entered_same program launch buffers valid f one other frame frame' sc site g roots es inside args
        args' top top' en en' in
        let ends' = callee_ends program (suc m) f site g roots es ends inside in
        let low' : CallsEnd program m program.kernel → ⊥ = λ z. low (ends_deeper program m program.kernel z) in
        let two = two_with d d' m g top top' sc' ends' low' (calls_alike d d' m g top top' sc' ends' low') in
        let r = end_alike program g (One d top) (Two' d' top') two (Block (function_at program g).body) (scope_of g)
        (good_body g) (part_body g) (first_held top) (first_held top') end end' how how'
        (start_alike g frame frame' roots args args' top top' en en' al) e e' in
        elim (same_how how how') [
          | inl q ↦ is ∙ given_alike how end end' (r.0 Answer tt nv) ∙ ap (λ a. given a end') q ∙ sym is'
          | inr ne ↦
              let frozen = r.2 ne Answer tt nv in
              let lone : (w : Who) (a : How) (s t : Held) → Exec w (Block (function_at program g).body) s a t →
              a ≡ Returned → ⊥ =
              λ w a s t y q. let z = return_held w (Block (function_at program g).body) s a t q y in
              let u : true ≡ false = sym z ∙ frozen in cc in
              is ∙ given_none how end (lone (One d top) how (first_held top) end e) ∙
              sym (given_none how' end' (lone (Two' d' top') how' (first_held top') end' e')) ∙ sym is'
        ]

    -- the frames of calls
    points_lone : (number d m : ℕ) (frame : Frame) (site g : ℕ) (roots : List (Option Root)) (args : List ℤ)
        (p : Point) (inner : Stand) (v : Owned) → CallsEnd program m g → (CallsEnd program m v.function → ⊥)
        → PointsAt program launch buffers number d frame site g roots args p inner → finds inner.frames v ≡ None
    points_lone number zero m frame site g roots args p inner v ends low c = absurd c
    points_lone number (suc d) zero frame site g roots args p inner v ends low c = absurd ends
    points_lone number (suc d) (suc m) frame site g roots args p inner v ends low (top, en, c) =
        let low' : CallsEnd program m v.function → ⊥ = λ z. low (ends_deeper program m v.function z) in
        comes_lone program g (who program launch buffers number d top) v
        (λ q. low (subst (CallsEnd program (suc m)) (sym en.function ∙ q) ends))
        (λ site' h rs es inside q. low'
        (subst (CallsEnd program m) q (callee_ends program m g site' h rs es ends inside)))
        (λ site' h rs es inside args' p' inner' x. points_lone number d m top site' h rs args' p' inner' v
        (callee_ends program m g site' h rs es ends inside) low' x)
        (Block (function_at program g).body) (scope_of g) p (first_held top) inner (good_body g) c

    abbrev pub PointsAlike : ℕ → ℕ → Frame → Frame → Type 0
    PointsAlike d f frame frame' =
        (site g : ℕ) (roots : List (Option Root)) (es : Expressions) → InBody program f (Call site g roots es) →
        (args args' : List ℤ) (p : Point) (inner inner' : Stand) →
        ((n : ℕ) → (Varies program (AVariable g n) → ⊥) → nth args n ≡ nth args' n)
        → PointsAt program launch buffers one d frame site g roots args p inner →
        PointsAt program launch buffers other d frame' site g roots args' p inner' → (v : Owned) →
        IsInBody program d g p v → (VO program v → ⊥) → FoundAlike inner.frames inner'.frames v

    pub points_with : (d m f : ℕ) (frame frame' : Frame) → SameConstants program launch buffers valid f frame frame' →
        frame.function ≡ f → frame'.function ≡ f → CallsEnd program (suc m) f →
        (CallsEnd program m program.kernel → ⊥) → PointsAlike d f frame frame'
        → TwoPoints program f (IsInBody program d) (One d frame) (Two' d frame')
    points_with d m f frame frame' sc mine mine' ends low points =
        let (l, el, nl) = least_depth program (suc m) f ends in
        record {
          two = two_with d d m f frame frame' sc ends low (calls_alike d d m f frame frame' sc ends low);
          mine = mine;
          mine' = mine';
          other = λ site g roots es inside q.
              nl (subst (CallsEnd program l) q (callee_ends program l f site g roots es el inside));
          away = λ site g roots es inside args p inner c v e. points_lone one d l frame site g roots args p inner v
              (callee_ends program l f site g roots es el inside) (λ z. nl (subst (CallsEnd program l) e z)) c;
          away' = λ site g roots es inside args p inner c v e. points_lone other d l frame' site g roots args p inner
              v (callee_ends program l f site g roots es el inside) (λ z. nl (subst (CallsEnd program l) e z)) c;
          points = points;
        }

    pub points_alike : (d m f : ℕ) (frame frame' : Frame) →
        SameConstants program launch buffers valid f frame frame' → CallsEnd program (suc m) f →
        (CallsEnd program m program.kernel → ⊥) → PointsAlike d f frame frame'
    points_alike zero m f frame frame' sc ends low site g roots es inside args args' p inner inner' al c c' v i nv =
        absurd c
    points_alike (suc d) zero f frame frame' sc ends low site g roots es inside args args' p inner inner' al c c' v i
        nv = absurd (callee_ends program zero f site g roots es ends inside)
    points_alike (suc d) (suc m) f frame frame' sc ends low site g roots es inside args args' p inner inner' al (
      top,
      en,
      c,
    ) (top', en', c') v i nv =
        let sc' = entered_same program launch buffers valid f one other frame frame' sc site g roots es inside args
        args' top top' en en' in
        let ends' = callee_ends program (suc m) f site g roots es ends inside in
        let low' : CallsEnd program m program.kernel → ⊥ = λ z. low (ends_deeper program m program.kernel z) in
        comes_alike program g (IsInBody program d) (One d top) (Two' d top')
        (points_with d m g top top' sc' en.function en'.function ends' low'
        (points_alike d m g top top' sc' ends' low'))
        (Block (function_at program g).body) (scope_of g) p (first_held top) (first_held top') inner inner'
        (good_body g) (part_body g) (start_alike g frame frame' roots args args' top top' en en' al) c c' v i nv

  -- the steps of a call

  module _ (number : ℕ) where
    -- behind the body of a called function
    returned : (d f g site : ℕ) (frame : Frame) (frames : List Frame) (roots : List (Option Root)) (args : List ℤ)
        (top : Frame) (s after : Held) (at : Point) (n m : ℕ) (rest : List Task) (values : List ℤ) (how : How)
        (to : Item)
        → (called : CallsRun program launch buffers number d g top
        (here (who program launch buffers number (suc d) frame) s ++ frames)) → m < n →
        IsEntered program launch number frame g roots args top
        → Exec (who program launch buffers number d top) (Block (function_at program g).body) (first_held top) how
        after → Leaves (who program launch buffers number d top) false false how
        → Past program launch buffers m
        (left program launch buffers number d g top (here (who program launch buffers number (suc d) frame) s ++
        frames) called how (InCall at site ∷ rest) values after) to
        → Called program launch buffers number (suc d) f frame frames site g roots args at n rest values s to
    returned d f g site frame frames roots args top s after at n m rest values Broke to called lt en e l h = cc l
    returned d f g site frame frames roots args top s after at n m rest values Continued to called lt en e l h = cc l
    returned d f g site frame frames roots args top s after at n m rest values Returned to called lt en e l h =
        inr (inr (after.answer, (top, Returned, after, en, e, refl), (m, lt, h)))
    returned d f g site frame frames roots args top s after at n zero rest values Normal to called lt en e l h =
        inr (inl (
          record top { variables = after.variables },
          ap (λ (i : Item). first_point i.tasks) h,
          en.function,
          ap (λ (i : Item). i.frames) h,
        ))
    returned d f g site frame frames roots args top s after at n (suc m) rest values Normal to called lt en e l (
      next,
      is,
      h,
    ) =
        inr (inr (
          pos 0,
          (top, Normal, after, en, e, refl),
          (m, omega arith, subst (λ i. Past program launch buffers m i to) is h),
        ))

    call_runs : (d g : ℕ) → CallsEnd program d g → (f : ℕ) (frame : Frame) (frames : List Frame) →
        CallRuns program launch buffers number d f frame frames g
    call_runs zero g ends f frame frames site roots args at n rest values s top to en h = absurd ends
    call_runs (suc d) g ends f frame frames site roots args at n rest values s top to en h =
        let below : List Frame = here (who program launch buffers number (suc d) frame) s ++ frames in
        let called : CallsRun program launch buffers number d g top below =
        λ site' k rs es inside. call_runs d k (callee_ends program d g site' k rs es ends inside) g top below in
        elim (runs program launch buffers number d g top below called (Block (function_at program g).body)
        (scope_of g) (good_body g) (at ++ Into ∷ []) n (InCall at site ∷ rest) values (first_held top) to h) [
          | inl (p, tops, w, fr, c) ↦ inl (p, tops, w ∙ ap Some (append_assoc at (Into ∷ []) p), fr, (top, en, c))
          | inr (how, after, e, (m, lt, h1)) ↦
              returned d f g site frame frames roots args top s after at n m rest values how to called lt en e
              (all_leave (who program launch buffers number d top) false false (function_at program g).body
              (first_held top) how after (exits_body program valid g) e) h1
        ]

    calls_run : (d f : ℕ) (frame : Frame) (frames : List Frame) → CallsEnd program (suc d) f →
        CallsRun program launch buffers number d f frame frames
    calls_run d f frame frames ends site g roots es inside =
        call_runs d g (callee_ends program d f site g roots es ends inside) f frame frames

  -- a history of an item, step by step

  does_lead : (x : Next Item) (deed : Deed) (mid : Item) →
      DoesOnce (lengths_of program launch buffers) (MayBeTold program launch buffers) x deed mid →
      Leads program launch buffers x mid
  does_lead (Waits site after) Passed mid h = sym h
  does_lead (Begins after) Turned mid h = sym h
  does_lead (Loads site access after) (Read at read bytes) mid h = (bytes, h.3, sym h.4)
  does_lead (Stores site object index bytes after) (Wrote at object' index' bytes') mid h = sym h.5
  does_lead x deed mid h = absurd h

  pub past_of : (s to : Item) (deeds : List Deed) →
      History (lengths_of program launch buffers) (MayBeTold program launch buffers) (item_next program launch) s
      deeds to → (n : ℕ) × Past program launch buffers n s to
  past_of s to deeds nothing = (0, refl)
  past_of s to deeds (going {mid = mid} e h) = let (n, p) =
      past_of mid to _ h in (suc n, (mid, subst (λ x. Leads program launch buffers x mid) (sym e) refl, p))
  past_of s to deeds (doing {mid = mid} {deed = deed} x h) = let (n, p) =
      past_of mid to _ h in (suc n, (mid, does_lead (item_next program launch s) deed mid x, p))

  -- an item that has ended stands nowhere
  ended : (m : ℕ) (from to : Item) (p : Point) → from.tasks ≡ [] → Past program launch buffers m from to →
      first_point to.tasks ≡ Some p → ⊥
  ended zero from to p none' e w =
      none-some p (sym (ap first_point none') ∙ sym (ap (λ (i : Item). first_point i.tasks) e) ∙ w)
  ended (suc m) from to p none' (mid, l, h) w =
      subst (λ ts. Leads program launch buffers (first_next program launch from ts) mid) none' l

  no_tasks : (number d f : ℕ) (frame : Frame) (frames : List Frame) (called : CallsRun program launch buffers number d
      f frame frames) (how : How) (s : Held) →
      (left program launch buffers number d f frame frames called how [] [] s).tasks ≡ []
  no_tasks number d f frame frames called Normal s = refl
  no_tasks number d f frame frames called Broke s = refl
  no_tasks number d f frame frames called Continued s = refl
  no_tasks number d f frame frames called Returned s = refl

  -- where an item of the launch stands in the kernel
  pub stands : (d number : ℕ) → CallsEnd program (suc d) program.kernel →
      (deeds : List Deed) (i : Item) (point : Point) → ItemHistory program launch buffers number deeds i →
      first_point i.tasks ≡ Some point
      → (tops : Stand) × ((i.frames ≡ tops.frames ++ []) × (last i.values ≡ tops.value)) ×
      Comes (who program launch buffers number d (kernel_frame program launch number))
      (Block (function_at program program.kernel).body) (first_held (kernel_frame program launch number)) point tops
  stands d number ends deeds i point h w =
      let frame = kernel_frame program launch number in
      let called = calls_run number d program.kernel frame [] ends in
      let (n, past) = past_of (start_item program launch number) i deeds h in
      elim (runs program launch buffers number d program.kernel frame [] called
      (Block (function_at program program.kernel).body) (scope_of program.kernel) (good_body program.kernel) []
      n [] [] (first_held frame) i past) [
        | inl (p, tops, at, fr, c) ↦ (
          tops,
          fr,
          subst (λ q. Comes (who program launch buffers number d frame)
              (Block (function_at program program.kernel).body) (first_held frame) q tops)
              (same_Some p point (sym at ∙ w)) c,
        )
        | inr (how, after, e, (m, lt, h1)) ↦
            absurd (ended m _ i point (no_tasks number d program.kernel frame [] called how after) h1 w)
      ]

  module _ (fits : FitsProgram program launch) where
    -- two histories at one point, with calls that nest less deep than the depth
    found_alike : (d : ℕ) → CallsEnd program (suc d) program.kernel → (v : Owned) → (VO program v → ⊥) →
        (one other : ℕ) → group_of launch one ≡ group_of launch other → (deeds deeds' : List Deed) (i j : Item)
        → ItemHistory program launch buffers one deeds i → ItemHistory program launch buffers other deeds' j →
        (point : Point) → first_point i.tasks ≡ Some point → first_point j.tasks ≡ Some point
        → IsInBody program (suc d) program.kernel point v → held_in i.frames v ≡ held_in j.frames v
    found_alike d ends v nv one other same deeds deeds' i j h h' point w w' has =
        let k = program.kernel in
        let (tops, fr, c) = stands d one ends deeds i point h w in
        let (tops', fr', c') = stands d other ends deeds' j point h' w' in
        let (m, em, nm) = least_depth program (suc d) k ends in
        let sc = kernel_same program launch buffers valid fits one other same in
        let t2 = points_with one other same d m k (kernel_frame program launch one)
        (kernel_frame program launch other) sc refl refl em nm
        (points_alike one other same d m k (kernel_frame program launch one) (kernel_frame program launch other) sc em
        nm) in
        let r = comes_alike program k (IsInBody program d)
        (who program launch buffers one d (kernel_frame program launch one))
        (who program launch buffers other d (kernel_frame program launch other)) t2
        (Block (function_at program k).body) (scope_of k) point (first_held (kernel_frame program launch one))
        (first_held (kernel_frame program launch other)) tops tops' (good_body k) (part_body k)
        (start_kernel one other) c c' v has nv in
        ap (λ fs. held_in fs v) fr.0 ∙ finds_held (tops.frames ++ []) v r.0 (finds_before tops.frames [] v r.0 r.1) ∙
        sym (ap (λ fs. held_in fs v) fr'.0 ∙
        finds_held (tops'.frames ++ []) v r.0 (finds_before tops'.frames [] v r.0 r.2))
      where
        start_kernel : (one other : ℕ) →
            Alike program program.kernel (scope_of program.kernel) (first_held (kernel_frame program launch one))
            (first_held (kernel_frame program launch other))
        start_kernel one other Answer has nv = refl
        start_kernel one other (Cell x) has nv = refl

    -- a variable that does not vary agrees
    pub once : (v : Owned) → (VO program v → ⊥) → Agrees program launch buffers v
    once v nv one other lt lt' same deeds deeds' i j h h' point w w' has = by_depth (length program.functions) refl has
      where
        by_depth : (n : ℕ) → length program.functions ≡ n → IsInBody program n program.kernel point v →
            held_in i.frames v ≡ held_in j.frames v
        by_depth zero e has = absurd has
        by_depth (suc d) e has =
            found_alike d (subst (λ n. CallsEnd program n program.kernel) e (valid.calls program.kernel valid.kernel))
            v nv one other same deeds deeds' i j h h' point w w' has
