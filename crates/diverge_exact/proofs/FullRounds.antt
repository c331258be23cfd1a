-- What varies is marked: in a round that adds nothing, what is found in a statement obeys the rules.
use Rattle.std.proofs.Common.{◌≡◌, ℕ, Bool, true, false, ◌||◌, cond, List, [], ◌∷◌, ◌++◌, Option, Some, None, ◌⊎◌, inl}
use Rattle.std.proofs.Common.{inr, refl, sym, ap, ◌∙◌, subst}
use Rattle.std.proofs.lemmas.Bool.{eqb-true}
use Rattle.std.proofs.lemmas.Option.{none-some}
use Rattle.cl_model.specs.Tree.{Set, Expression, Apply, single, Statement, Do, Declare, Fill, Block, If, Loop, Switch}
use Rattle.cl_model.specs.Tree.{Break, Continue, Return, Barrier, Statements, empty, also, Arms, no_arm, arm, Function}
use Rattle.cl_model.specs.Tree.{Program}
use Rattle.cl_model.specs.Lists.{IsOneOf}
use Rattle.cl_model.specs.Calls.{function_at}
use Rattle.cl_model.specs.Valid.{Scope, Has, IsScopedList, scope_after, sites_in, sites_among, sites_in_optional}
use Rattle.cl_model.specs.Valid.{sites_of, sites_of_all, sites_of_arms, all_declarations, arms_declarations, IsValid}
use Rattle.cl_model.specs.Varying.{Condition, sets, assigns, some_assigns, arms_assign, exits, some_exits, arms_exit}
use Rattle.cl_model.specs.Varying.{conditions_in, conditions_among, conditions_in_optional, loop_condition}
use Rattle.cl_model.specs.Varying.{conditions_of, conditions_of_list, conditions_of_arms, parts_of, parts_among}
use Rattle.cl_model.specs.Varying.{parts_of_optional, expressions_of, expressions_of_list, expressions_of_arms}
use Rattle.cl_model.specs.Varying.{returned, returned_list, returned_arms}
use Rattle.diverge.specs.declared.known.Entry.{Entry}
use Rattle.diverge.specs.declared.known.Spot.{Spot}
use Rattle.diverge.specs.declared.known.Ways.{Ways}
use Rattle.diverge.specs.Known as known
use Rattle.diverge.specs.Known.{State, variable_at, result_at, same_guard, behind, joined}
use Rattle.diverge.specs.Rounds.{Seen, seen_in, seen_among, seen_optional, unseen, closed, gone_over, gone_over_all}
use Rattle.diverge.specs.Rounds.{gone_over_arms}
use Rattle.diverge_sound.proofs.Keeps.{or_left, or_right, Key, Answer, Cell, HasKey, gives_in, gives_among}
use Rattle.diverge_sound.proofs.Keeps.{gives_optional, gives, some_give, arms_give, has_after}
use Rattle.diverge_sound.proofs.Parts.{in_left, in_right, conditions_also, GoodOptional, GoodRun, GoodList, GoodArms}
use Rattle.diverge_sound.proofs.Parts.{good_do, good_declare, good_fill, good_block, good_if, good_loop, good_switch}
use Rattle.diverge_sound.proofs.Parts.{good_return, good_also, good_arm, if_condition, turn_condition, switch_condition}
use Rattle.diverge_sound.proofs.Values.{InBody, UnderBody, BackBody, cond_gives}
use Rattle.diverge_exact.proofs.Slots.{entry, with_key}
use Rattle.diverge_exact.proofs.Sound.{either}
use Rattle.diverge_exact.proofs.Steps.{Onto, onto_same, onto_then, onto_change, onto_declare, landed_here, Final}
use Rattle.diverge_exact.proofs.Steps.{final_before, marked_new, Flag, flag_new, left_marked, Apart, apart_left}
use Rattle.diverge_exact.proofs.Steps.{apart_right, apart_rest, apart_on, apart_under}
use Rattle.diverge_exact.proofs.Full.{by_marks, Facts, facts_none, facts_both, facts_less, facts_on, facts_node}
use Rattle.diverge_exact.proofs.Full.{facts_condition, facts_inner, sp, fun, assign_onto, assign_marked, seen_full}
use Rattle.diverge_exact.proofs.Full.{among_full}
use Rattle.diverge_exact.proofs.Scopes.{no_exit, no_exit_optional, no_exit_among, Cover, inner_declarations}
use Rattle.diverge_exact.proofs.Scopes.{cover_first, cover_rest, cover_declared, cover_chosen, cover_other, cover_body}
use Rattle.diverge_exact.proofs.Scopes.{cover_arms, cover_arm, cover_arms_rest}
use Rattle.diverge_exact.proofs.WaysOut.{given, Outs, outs_quiet, outs_both, behind_held, joined_held, outs_condition}
use Rattle.diverge_exact.proofs.WaysOut.{outs_behind, do_gives, declare_gives, no_gives, lone_declare, lone_break}
use Rattle.diverge_exact.proofs.WaysOut.{lone_continue, lone_barrier, fill_gives, block_gives, if_splits, branch_splits}
use Rattle.diverge_exact.proofs.WaysOut.{switch_splits, arms_given, also_splits, arm_splits, turn_gives, loop_splits}
use Rattle.diverge_exact.proofs.WaysOut.{turn_given, none_given, no_arm_given, value_of_single, swap}

module _ (program : Program) (M : ℕ → Key → Bool) (f : ℕ) where
  abbrev BM : Expression → Bool
  BM = by_marks program M f

  abbrev FA : Scope → Option ℕ → State → State → List Expression → List Condition → (Key → Bool) → Type 0
  FA = Facts program M f

  module _ (valid : IsValid program) where
    abbrev S : Option ℕ → Spot
    S = sp program M f valid

    abbrev GO : Scope → Option Expression → Type 0
    GO = GoodOptional (InBody program f) (UnderBody program f) (BackBody program f)

    abbrev GR : Scope → Statement → Type 0
    GR = GoodRun (InBody program f) (UnderBody program f) (BackBody program f)

    abbrev GL : Scope → Statements → Type 0
    GL = GoodList (InBody program f) (UnderBody program f) (BackBody program f)

    abbrev GM : Scope → Arms → Type 0
    GM = GoodArms (InBody program f) (UnderBody program f) (BackBody program f)

    abbrev F' : Function
    F' = fun program M f valid

    optional_full : (e : Option Expression) (sc : Scope) (guard : Option ℕ) (s : State) → GO sc e →
        Apart f guard s sc (sites_in_optional e) → let r = seen_optional F' (S guard) e s in
        Onto f sc s r.state × (Final M r.state → ((x : Expression) → e ≡ Some x → BM x ≡ true → r.varies ≡ true) ×
        FA sc guard s r.state (parts_of_optional e) (conditions_in_optional sc e) (gives_optional e))
    optional_full None sc guard s ok apart =
        (onto_same f sc s, λ fin. ((λ x q. cc q), facts_none program M f sc guard s s (gives_optional None) lone))
      where
        lone : (k : Key) → gives_optional None k ≡ true → ⊥
        lone Answer h = cc h
        lone (Cell x) h = cc h
    optional_full (Some e) sc guard s ok apart =
        let r = seen_full program M f valid e sc guard s ok apart in
        let t = (seen_in F' (S guard) e s).state in (
          r.0,
          λ fin. let F = r.1 fin in (
            (λ x q v. F.0 (some_marks e x q v)),
            facts_less program M f sc guard s t (parts_of e) (parts_of e) (conditions_in sc e) (conditions_in sc e)
                (gives_in e) (gives_optional (Some e)) (λ d m. m) (λ d m. m) (given' e) F.1,
          ),
        )
      where
        some_marks : (e x : Expression) → Some e ≡ Some x → BM x ≡ true → BM e ≡ true
        some_marks e x q v = let z : e ≡ x = cc q in subst (λ y. BM y ≡ true) (sym z) v

        given' : (e : Expression) (k : Key) → gives_optional (Some e) k ≡ true → gives_in e k ≡ true
        given' e Answer h = cc h
        given' e (Cell x) h = h

    -- declarations
    declare_onto : (sc : Scope) (guard : Option ℕ) (y : ℕ) (varies : Bool) (s : State) → (Has sc y → ⊥) →
        Onto f sc s (known.declare (S guard) y varies s)
    declare_onto sc guard y varies s ne =
        onto_declare f sc y (known.declared guard varies (variable_at s f y)) s (λ h. or_left _ varies h) (λ h. h) ne

    -- conditions are apart behind a statement too
    apart_behind : (x : Statement) (sc : Scope) (guard : Option ℕ) (s : State) (sites : List ℕ) → let t =
        (gone_over F' (S guard) x s).state in Onto f sc s t → Apart f guard s sc sites →
        Apart f guard t (scope_after sc x) sites
    apart_behind (Declare y value) sc guard s sites onto a = record {
      differ = a.differ;
      around = a.around;
      before = λ k has. by_key k has;
    }
      where
        v : Seen
        v = seen_optional F' (S guard) value s

        t : State
        t = known.declare (S guard) y v.varies v.state

        by_key : (k : Key) → HasKey (y ∷ sc) k → (i : ℕ) → (entry t f k).since ≡ Some i → IsOneOf sites i → ⊥
        by_key Answer has i h m = (apart_on f guard s t sc sites onto a).before Answer has i h m
        by_key (Cell z) (inr has) i h m = (apart_on f guard s t sc sites onto a).before (Cell z) has i h m
        by_key (Cell z) (inl q) i h m =
            let h' : (entry t f (Cell y)).since ≡ Some i = subst (λ w. (entry t f (Cell w)).since ≡ Some i) (sym q) h in
            elim (landed_here f (Cell y) (known.declared guard v.varies (variable_at v.state f y)) v.state) [
              | inl e ↦ a.around i (sym (ap (λ (x : Entry). x.since) e) ∙ h') m
              | inr e ↦ none-some i (sym (ap (λ (x : Entry). x.since) e) ∙ h')
            ]
    apart_behind (Do d) sc guard s sites onto a =
        apart_on f guard s (gone_over F' (S guard) (Do d) s).state sc sites onto a
    apart_behind (Fill site array es) sc guard s sites onto a =
        apart_on f guard s (gone_over F' (S guard) (Fill site array es) s).state sc sites onto a
    apart_behind (Block list) sc guard s sites onto a =
        apart_on f guard s (gone_over F' (S guard) (Block list) s).state sc sites onto a
    apart_behind (If site t x y) sc guard s sites onto a =
        apart_on f guard s (gone_over F' (S guard) (If site t x y) s).state sc sites onto a
    apart_behind (Loop site first t st b) sc guard s sites onto a =
        apart_on f guard s (gone_over F' (S guard) (Loop site first t st b) s).state sc sites onto a
    apart_behind (Switch site v arms) sc guard s sites onto a =
        apart_on f guard s (gone_over F' (S guard) (Switch site v arms) s).state sc sites onto a
    apart_behind (Break site) sc guard s sites onto a =
        apart_on f guard s (gone_over F' (S guard) (Break site) s).state sc sites onto a
    apart_behind (Continue site) sc guard s sites onto a =
        apart_on f guard s (gone_over F' (S guard) (Continue site) s).state sc sites onto a
    apart_behind (Return site value) sc guard s sites onto a =
        apart_on f guard s (gone_over F' (S guard) (Return site value) s).state sc sites onto a
    apart_behind (Barrier site) sc guard s sites onto a =
        apart_on f guard s (gone_over F' (S guard) (Barrier site) s).state sc sites onto a

    leave_onto : (sc : Scope) (k : Key) (s : State) → Onto f sc s (with_key f k (known.left (entry s f k)) s)
    leave_onto sc k s = onto_change f sc f k (known.left (entry s f k)) s (λ h. or_left _ _ h) (λ h. h) refl

    -- the end of the scope of a declaration
    closed_full : (sc : Scope) (x : Statement) (escapes : Bool) (guard : Option ℕ) (s : State) → let t =
        closed (S guard) x escapes s in
        Onto f sc s t × (Final M t → (k : Key) → HasKey (scope_after sc x) k → escapes ≡ true →
        ((y : ℕ) (value : Option Expression) → x ≡ Declare y value → k ≡ Cell y → Flag M f s (Cell y)) →
        HasKey sc k ⊎ (M f k ≡ true))
    closed_full sc (Declare y value) true guard s =
        (leave_onto sc (Cell y) s, λ fin k has e flag. by_key fin k has (flag y value refl))
      where
        by_key : Final M (with_key f (Cell y) (known.left (entry s f (Cell y))) s) → (k : Key) → HasKey (y ∷ sc) k →
            (k ≡ Cell y → Flag M f s (Cell y)) → HasKey sc k ⊎ (M f k ≡ true)
        by_key fin Answer has flag = inl tt
        by_key fin (Cell z) (inr has) flag = inl has
        by_key fin (Cell z) (inl q) flag =
            inr (subst (λ w. M f (Cell w) ≡ true) q (left_marked M f (Cell y) s fin (flag (ap Cell (sym q)))))
    closed_full sc (Do d) true guard s = (onto_same f sc s, λ fin k has e flag. inl has)
    closed_full sc (Fill site array es) true guard s = (onto_same f sc s, λ fin k has e flag. inl has)
    closed_full sc (Block list) true guard s = (onto_same f sc s, λ fin k has e flag. inl has)
    closed_full sc (If site t a b) true guard s = (onto_same f sc s, λ fin k has e flag. inl has)
    closed_full sc (Loop site first t st b) true guard s = (onto_same f sc s, λ fin k has e flag. inl has)
    closed_full sc (Switch site v arms) true guard s = (onto_same f sc s, λ fin k has e flag. inl has)
    closed_full sc (Break site) true guard s = (onto_same f sc s, λ fin k has e flag. inl has)
    closed_full sc (Continue site) true guard s = (onto_same f sc s, λ fin k has e flag. inl has)
    closed_full sc (Return site value) true guard s = (onto_same f sc s, λ fin k has e flag. inl has)
    closed_full sc (Barrier site) true guard s = (onto_same f sc s, λ fin k has e flag. inl has)
    closed_full sc x false guard s = (onto_same f sc s, λ fin k has e flag. cc e)

    abbrev Gone' : Scope → Option ℕ → State → Statement → Type 0
    Gone' sc guard s x =
        let r = gone_over F' (S guard) x s in
        Onto f sc s r.state × (exits x ≡ true → r.ways.exits ≡ true) × (r.ways.escapes ≡ true → r.ways.exits ≡ true)
        × (Final M r.state → FA sc guard s r.state (expressions_of x) (conditions_of sc x) (gives x)
        × Outs program M f sc (conditions_of sc x) (returned x) r.ways.escapes)

    abbrev GoneAll : Scope → Option ℕ → State → Statements → Type 0
    GoneAll sc guard s list =
        let r = gone_over_all F' (S guard) list s in
        Onto f sc s r.state × (some_exits list ≡ true → r.ways.exits ≡ true) × (r.ways.escapes ≡ true →
        r.ways.exits ≡ true)
        × (Final M r.state → FA sc guard s r.state (expressions_of_list list) (conditions_of_list sc list)
        (some_give list) × Outs program M f sc (conditions_of_list sc list) (returned_list list) r.ways.escapes)

    abbrev GoneArms : Scope → Option ℕ → State → Arms → Type 0
    GoneArms sc guard s arms =
        let r = gone_over_arms F' (S guard) arms s in
        Onto f sc s r.state × (arms_exit arms ≡ true → r.ways.exits ≡ true) × (r.ways.escapes ≡ true →
        r.ways.exits ≡ true)
        × (Final M r.state → FA sc guard s r.state (expressions_of_arms arms) (conditions_of_arms sc arms)
        (arms_give arms) × Outs program M f sc (conditions_of_arms sc arms) (returned_arms arms) r.ways.escapes)

    -- a loop: what stands under its test, with the test
    loop_facts : (sc : Scope) (guard : Option ℕ) (site : ℕ) (ys : List ℕ) (first : Bool) (t st : Option Expression)
        (b : Statement) (varies : Bool) (s u : State) (xs : List Expression) (cs : List Condition) →
        Apart f guard s sc (site ∷ ys)
        → ((x : Expression) → t ≡ Some x → BM x ≡ true → varies ≡ true) →
        FA sc (cond varies (Some site) guard) s u xs cs (gives (Loop site first t st b)) →
        FA sc guard s u xs (loop_condition sc t st b ++ cs) (gives (Loop site first t st b))
    loop_facts sc guard site ys first None st b varies s u xs cs apart value F =
        facts_inner program M f sc guard site ys varies s u xs cs (gives (Loop site first None st b)) apart F
    loop_facts sc guard site ys first (Some t) st b varies s u xs cs apart value F =
        facts_condition program M f sc guard site ys varies s u xs (turn_condition sc t st b) cs
        (gives (Loop site first (Some t) st b)) apart (value t refl) (λ k h. h)
        (turn_given program M f sc site first t st b) F

    loop_outs : (sc : Scope) (t st : Option Expression) (b : Statement) (varies : Bool) (ways : Ways)
        (cs : List Condition) (rs : List Expression) → ((x : Expression) → t ≡ Some x → BM x ≡ true → varies ≡ true) →
        (exits b ≡ true → ways.exits ≡ true) → (ways.escapes ≡ true → ways.exits ≡ true)
        → Outs program M f sc cs rs ways.escapes → Outs program M f sc (loop_condition sc t st b ++ cs) rs
        (behind varies ways).escapes
    loop_outs sc None st b varies ways cs rs value out held F = outs_behind program M f sc cs rs varies ways held F
    loop_outs sc (Some t) st b varies ways cs rs value out held F =
        outs_condition program M f sc (turn_condition sc t st b) cs rs varies ways (value t refl) out held (λ k h. h) F

    -- a return gives the answer
    abbrev is_answer : Key → Bool
    is_answer Answer = true
    is_answer (Cell x) = false

    return_none : (site : ℕ) (k : Key) → gives (Return site None) k ≡ true → is_answer k ≡ true
    return_none site Answer h = refl
    return_none site (Cell x) h = cc h

    return_splits : (site : ℕ) (e : Expression) (k : Key) → gives (Return site (Some e)) k ≡ true →
        (gives_in e k ≡ true) ⊎ (is_answer k ≡ true)
    return_splits site e Answer h = inr refl
    return_splits site e (Cell x) h = inl h

    answer_facts : (sc : Scope) (guard : Option ℕ) (varies : Bool) (s : State) →
        Final M (known.give (S guard) varies s) → FA sc guard s (known.give (S guard) varies s) [] [] is_answer
    answer_facts sc guard varies s fin = record {
      assigns = λ a es x m. absurd m;
      passes = λ i g r es m. absurd m;
      under = λ c m. absurd m;
      guarded = λ k h has away. marked k h away;
      flags = λ k h has. flagged k h;
    }
      where
        marked : (k : Key) → is_answer k ≡ true → same_guard (entry s f k).since guard ≡ false → M f k ≡ true
        marked Answer h away = assign_marked program M f valid guard Answer varies s fin (inr away)
        marked (Cell x) h away = cc h

        flagged : (k : Key) → is_answer k ≡ true → Flag M f (known.give (S guard) varies s) k
        flagged Answer h = flag_new M f Answer (known.assigned guard varies (result_at s f)) s fin refl
        flagged (Cell x) h = cc h

    -- what is in scope stays in scope behind a statement
    narrow : (sc : Scope) (x : Statement) (s t : State) → Onto f (scope_after sc x) s t → Onto f sc s t
    narrow sc x s t onto = record {
      quiet = onto.quiet;
      flags = onto.flags;
      since = λ g k has. onto.since g k
          (λ q. has_after sc x k (has q));
    }

    mutual
      pub gone_full : (x : Statement) (sc : Scope) (guard : Option ℕ) (s : State) → GR sc x →
          Cover (given program M f) (assigns x) (inner_declarations x) → Apart f guard s sc (sites_of x) →
          Gone' sc guard s x
      gone_full (Do e) sc guard s ok cover apart =
          let r = seen_full program M f valid e sc guard s (good_do (InBody program f) (UnderBody program f)
          (BackBody program f) sc e ok) apart in
          let t = (seen_in F' (S guard) e s).state in (
            r.0,
            (λ h. cc h),
            (λ h. cc h),
            λ fin. (
              facts_less program M f sc guard s t (parts_of e) (parts_of e) (conditions_in sc e) (conditions_in sc e)
                  (gives_in e) (gives (Do e)) (λ d m. m) (λ d m. m) (do_gives program M f e) (r.1 fin).1,
              (outs_quiet program M f) sc (conditions_in sc e) false (no_exit sc e),
            ),
          )
      gone_full (Declare y None) sc guard s ok cover apart = (
        declare_onto sc guard y false s ok.names.0,
        (λ h. cc h),
        (λ h. cc h),
        λ fin. (
          facts_none program M f sc guard s (known.declare (S guard) y false s) (gives (Declare y None))
              (λ k h. no_gives program M f (Declare y None) k (lone_declare program M f y k) h),
          (outs_quiet program M f) sc [] false (λ c m. absurd m),
        ),
      )
      gone_full (Declare y (Some e)) sc guard s ok cover apart =
          let o = good_declare (InBody program f) (UnderBody program f) (BackBody program f) sc y e ok in
          let r = seen_full program M f valid e sc guard s o.1 apart in
          let v = seen_in F' (S guard) e s in
          let t = known.declare (S guard) y v.varies v.state in
          let d = declare_onto sc guard y v.varies v.state o.2 in (
            onto_then f sc s v.state t r.0 d,
            (λ h. cc h),
            (λ h. cc h),
            λ fin.
                let F = r.1 (final_before M f sc v.state t d fin) in (
                  facts_node program M f sc guard s t (Apply (Set y) (single e)) (parts_of e) (conditions_in sc e)
                      (gives (Declare y (Some e))) (λ action es x q h m.
                      let same : Set y ≡ action = cc q in
                      let at : y ≡ x = eqb-true y x (subst (λ a. sets a x ≡ true) (sym same) h) in
                      let value : BM e ≡ true = value_of_single program M f e (subst (λ z. BM z ≡ true) (sym q) m) in
                      subst (λ z. M f (Cell z) ≡ true) at
                      (marked_new M f (Cell y) (known.declared guard v.varies (variable_at v.state f y)) v.state
                      fin (or_right (variable_at v.state f y).varies v.varies (F.0 value))))
                      (λ i g roots es q. absurd (cc q))
                      (facts_on program M f sc guard s v.state t (parts_of e) (conditions_in sc e)
                      (gives (Declare y (Some e))) d
                      (facts_less program M f sc guard s v.state (parts_of e) (parts_of e) (conditions_in sc e)
                      (conditions_in sc e) (gives_in e) (gives (Declare y (Some e))) (λ z m. m) (λ z m. m)
                      (declare_gives program M f y e) F.1)),
                  (outs_quiet program M f) sc (conditions_in sc e) false (no_exit sc e),
                ),
          )
      gone_full (Fill site array es) sc guard s ok cover apart =
          let r = among_full program M f valid es sc guard false (unseen s)
          (good_fill (InBody program f) (UnderBody program f) (BackBody program f) sc site array es ok)
          (apart_rest f guard s sc site (sites_among es) apart) in
          let t = (seen_among F' (S guard) false es (unseen s)).state in (
            r.0,
            (λ h. cc h),
            (λ h. cc h),
            λ fin. (
              facts_less program M f sc guard s t (parts_among es) (parts_among es) (conditions_among sc es)
                  (conditions_among sc es) (gives_among es) (gives (Fill site array es)) (λ d m. m) (λ d m. m)
                  (fill_gives program M f site array es) (r.1 fin).1,
              (outs_quiet program M f) sc (conditions_among sc es) false (no_exit_among sc es),
            ),
          )
      gone_full (Block list) sc guard s ok cover apart =
          let r = all_full list sc guard s (good_block (InBody program f) (UnderBody program f) (BackBody program f) sc
          list ok) cover apart in
          let t = (gone_over_all F' (S guard) list s).state in (
            r.0,
            r.1,
            r.2,
            λ fin. let F = r.3 fin in (
              facts_less program M f sc guard s t (expressions_of_list list) (expressions_of_list list)
                  (conditions_of_list sc list) (conditions_of_list sc list) (some_give list) (gives (Block list))
                  (λ d m. m) (λ d m. m) (block_gives program M f list) F.0,
              F.1,
            ),
          )
      gone_full (If site t a b) sc guard s ok cover apart =
          let o = good_if (InBody program f) (UnderBody program f) (BackBody program f) sc site t a b ok in
          let ab : List ℕ = sites_of_all a ++ sites_of_all b in
          let ys : List ℕ = sites_in t ++ ab in
          let c : Condition = if_condition sc t a b in
          let there : Key → Bool = cond_gives program f c in
          let x = seen_in F' (S guard) t s in
          let inner : Option ℕ = cond x.varies (Some site) guard in
          let y = gone_over_all F' (S inner) a x.state in
          let z = gone_over_all F' (S inner) b y.state in
          let ways = joined y.ways z.ways in
          let rt = seen_full program M f valid t sc guard s o.1
          (apart_left f guard s sc (sites_in t) ab (apart_rest f guard s sc site ys apart)) in
          let apart1 : Apart f guard x.state sc (site ∷ ys) = apart_on f guard s x.state sc (site ∷ ys) rt.0 apart in
          let apart2 : Apart f inner x.state sc ab = apart_right f inner x.state sc (sites_in t) ab
          (apart_under f guard x.state sc site ys x.varies apart1) in
          let ra = all_full a sc inner x.state o.2 (cover_chosen sc (given program M f) site t a b ok.names cover)
          (apart_left f inner x.state sc (sites_of_all a) (sites_of_all b) apart2) in
          let rb = all_full b sc inner y.state o.3 (cover_other sc (given program M f) site t a b ok.names cover)
          (apart_on f inner x.state y.state sc (sites_of_all b) ra.0
          (apart_right f inner x.state sc (sites_of_all a) (sites_of_all b) apart2)) in
          let both = onto_then f sc x.state y.state z.state ra.0 rb.0 in
          let out : some_exits a || some_exits b ≡ true → ways.exits ≡ true =
          λ h. elim (either (some_exits a) (some_exits b) h) [
            | inl q ↦
                or_left y.ways.exits z.ways.exits (ra.1 q)
            | inr q ↦ or_right y.ways.exits z.ways.exits (rb.1 q)
          ] in
          let held : ways.escapes ≡ true → ways.exits ≡ true = joined_held program M f y.ways z.ways ra.2 rb.2 in (
            onto_then f sc s x.state z.state rt.0 both,
            out,
            (behind_held program M f) x.varies ways held,
            λ fin.
                let fy = final_before M f sc y.state z.state rb.0 fin in
                let Ft = rt.1 (final_before M f sc x.state z.state both fin) in
                let Fa = ra.3 fy in
                let Fb = rb.3 fin in
                let F2 = facts_both program M f sc sc inner x.state y.state z.state (expressions_of_list a)
                (expressions_of_list b) (conditions_of_list sc a) (conditions_of_list sc b) (some_give a)
                (some_give b) there (λ k h. h) ra.0 rb.0 (branch_splits program M f sc t a b) Fa.0 Fb.0 in
                let F3 = facts_condition program M f sc guard site ys x.varies x.state z.state
                (expressions_of_list a ++ expressions_of_list b) c (conditions_of_list sc a ++
                conditions_of_list sc b) there apart1 Ft.0 (λ k h. h) (λ k h. h) F2 in
                let F4 = facts_both program M f sc sc guard s x.state z.state (parts_of t) (expressions_of_list a ++
                expressions_of_list b) (conditions_in sc t)
                (c ∷ (conditions_of_list sc a ++ conditions_of_list sc b)) (gives_in t) there
                (gives (If site t a b)) (λ k h. h) rt.0 both (if_splits program M f sc site t a b) Ft.1 F3 in
                let O2 = outs_both program M f sc sc (conditions_of_list sc a) (conditions_of_list sc b)
                (returned_list a)
                (returned_list b) y.ways.escapes z.ways.escapes ways.escapes
                (or_left y.ways.escapes z.ways.escapes) (or_right y.ways.escapes z.ways.escapes) (λ k has e on.
                inl has) Fa.1 Fb.1 in
                let O3 = outs_both program M f sc sc (conditions_in sc t)
                (conditions_of_list sc a ++ conditions_of_list sc b) []
                (returned_list a ++ returned_list b) false ways.escapes ways.escapes (λ h. cc h) (λ h. h)
                (λ k has e on. inl has) (outs_quiet program M f sc (conditions_in sc t) false (no_exit sc t)) O2 in (
                  facts_less program M f sc guard s z.state (parts_of t ++
                      (expressions_of_list a ++ expressions_of_list b)) (parts_of t ++
                      (expressions_of_list a ++ expressions_of_list b)) (conditions_in sc t ++
                      (c ∷ (conditions_of_list sc a ++ conditions_of_list sc b))) (conditions_of sc (If site t a b))
                      (gives (If site t a b)) (gives (If site t a b))
                      (λ d m. m) (λ d m. swap program M f c d (conditions_in sc t)
                      (conditions_of_list sc a ++ conditions_of_list sc b) m) (λ k h. h) F4,
                  (outs_condition program M f) sc c
                      (conditions_in sc t ++ (conditions_of_list sc a ++ conditions_of_list sc b))
                      (returned_list a ++ returned_list b) x.varies ways Ft.0 out held (λ k h. h) O3,
                ),
          )
      gone_full (Loop site first t st b) sc guard s ok cover apart =
          let o = good_loop (InBody program f) (UnderBody program f) (BackBody program f) sc site first t st b ok in
          let all : Key → Bool = gives (Loop site first t st b) in
          let sb : List ℕ = sites_in_optional st ++ sites_of b in
          let ys : List ℕ = sites_in_optional t ++ sb in
          let x = seen_optional F' (S guard) t s in
          let inner : Option ℕ = cond x.varies (Some site) guard in
          let x2 = seen_optional F' (S inner) t x.state in
          let x3 = seen_optional F' (S inner) st x2.state in
          let y = gone_over F' (S inner) b x3.state in
          let r1 = optional_full t sc guard s o.1 (apart_left f guard s sc (sites_in_optional t) sb
          (apart_rest f guard s sc site ys apart)) in
          let apart1 : Apart f guard x.state sc (site ∷ ys) = apart_on f guard s x.state sc (site ∷ ys) r1.0 apart in
          let apart2 : Apart f inner x.state sc ys = apart_under f guard x.state sc site ys x.varies apart1 in
          let r2 = optional_full t sc inner x.state o.1
          (apart_left f inner x.state sc (sites_in_optional t) sb apart2) in
          let apart3 : Apart f inner x2.state sc sb = apart_on f inner x.state x2.state sc sb r2.0
          (apart_right f inner x.state sc (sites_in_optional t) sb apart2) in
          let r3 = optional_full st sc inner x2.state o.2 (apart_left f inner x2.state sc (sites_in_optional st)
          (sites_of b) apart3) in
          let r4 = gone_full b sc inner x3.state o.3
          (cover_body sc (given program M f) site first t st b ok.names cover)
          (apart_on f inner x2.state x3.state sc (sites_of b) r3.0
          (apart_right f inner x2.state sc (sites_in_optional st) (sites_of b) apart3)) in
          let onto3 = onto_then f sc x2.state x3.state y.state r3.0 r4.0 in
          let onto2 = onto_then f sc x.state x2.state y.state r2.0 onto3 in (
            onto_then f sc s x.state y.state r1.0 onto2,
            r4.1,
            (behind_held program M f) x.varies y.ways r4.2,
            λ fin.
                let f3 = final_before M f sc x3.state y.state r4.0 fin in
                let f2 = final_before M f sc x2.state y.state onto3 fin in
                let f1 = final_before M f sc x.state y.state onto2 fin in
                let F1 = r1.1 f1 in
                let F2 = r2.1 f2 in
                let F3 = r3.1 f3 in
                let F4 = r4.3 fin in
                let ps : List Expression = parts_of_optional st ++ expressions_of b in
                let cs : List Condition = conditions_in_optional sc st ++ conditions_of sc b in
                let G3 = facts_both program M f sc sc inner x2.state x3.state y.state (parts_of_optional st)
                (expressions_of b) (conditions_in_optional sc st) (conditions_of sc b) (gives_optional st)
                (gives b) (turn_gives program M f st b) (λ k h. h) r3.0 r4.0
                (λ k h. either (gives_optional st k) (gives b k)
                h) F3.1 F4.0 in
                let G2 = facts_both program M f sc sc inner x.state x2.state y.state (parts_of_optional t) ps
                (conditions_in_optional sc t) cs (gives_optional t) (turn_gives program M f st b) all
                (λ k h. h) r2.0 onto3
                (loop_splits program M f site first t st b) F2.1 G3 in
                let G1 = loop_facts sc guard site ys first t st b x.varies x.state y.state (parts_of_optional t ++ ps)
                (conditions_in_optional sc t ++ cs) apart1 F1.0 G2 in
                let G0 = facts_both program M f sc sc guard s x.state y.state (parts_of_optional t)
                (parts_of_optional t ++ ps) (conditions_in_optional sc t) (loop_condition sc t st b ++
                (conditions_in_optional sc t ++ cs)) (gives_optional t) all all (λ k h. h) r1.0 onto2
                (λ k h. inr h) F1.1 G1 in
                let O3 = outs_both program M f sc sc (conditions_in_optional sc st) (conditions_of sc b) []
                (returned b) false
                y.ways.escapes y.ways.escapes (λ h. cc h) (λ h. h) (λ k has e on. inl has)
                (outs_quiet program M f sc (conditions_in_optional sc st) false (no_exit_optional sc st)) F4.1 in
                let O2 = outs_both program M f sc sc (conditions_in_optional sc t) cs [] (returned b) false
                y.ways.escapes
                y.ways.escapes (λ h. cc h) (λ h. h) (λ k has e on. inl has)
                (outs_quiet program M f sc (conditions_in_optional sc t) false (no_exit_optional sc t)) O3 in (
                  facts_less program M f sc guard s y.state (parts_of_optional t ++ (parts_of_optional t ++ ps))
                      (parts_of_optional t ++ ps) (conditions_in_optional sc t ++
                      (loop_condition sc t st b ++ (conditions_in_optional sc t ++ cs)))
                      (loop_condition sc t st b ++ (conditions_in_optional sc t ++ cs)) all all
                      (λ d m. in_right (parts_of_optional t) (parts_of_optional t ++ ps) d m)
                      (λ d m. in_right (conditions_in_optional sc t) (loop_condition sc t st b ++
                      (conditions_in_optional sc t ++ cs)) d m) (λ k h. h) G0,
                  loop_outs sc t st b x.varies y.ways (conditions_in_optional sc t ++ cs) (returned b) F1.0 r4.1 r4.2
                      O2,
                ),
          )
      gone_full (Switch site v arms) sc guard s ok cover apart =
          let o = good_switch (InBody program f) (UnderBody program f) (BackBody program f) sc site v arms ok in
          let ys : List ℕ = sites_in v ++ sites_of_arms arms in
          let c : Condition = switch_condition sc v arms in
          let there : Key → Bool = cond_gives program f c in
          let x = seen_in F' (S guard) v s in
          let inner : Option ℕ = cond x.varies (Some site) guard in
          let y = gone_over_arms F' (S inner) arms x.state in
          let rt = seen_full program M f valid v sc guard s o.1
          (apart_left f guard s sc (sites_in v) (sites_of_arms arms) (apart_rest f guard s sc site ys apart)) in
          let apart1 : Apart f guard x.state sc (site ∷ ys) = apart_on f guard s x.state sc (site ∷ ys) rt.0 apart in
          let ra = arms_full arms sc inner x.state o.2 (cover_arms sc (given program M f) site v arms ok.names cover)
          (apart_right f inner x.state sc (sites_in v) (sites_of_arms arms)
          (apart_under f guard x.state sc site ys x.varies apart1)) in (
            onto_then f sc s x.state y.state rt.0 ra.0,
            ra.1,
            (behind_held program M f) x.varies y.ways ra.2,
            λ fin.
                let Ft = rt.1 (final_before M f sc x.state y.state ra.0 fin) in
                let Fa = ra.3 fin in
                let F2 = facts_less program M f sc inner x.state y.state (expressions_of_arms arms)
                (expressions_of_arms arms) (conditions_of_arms sc arms) (conditions_of_arms sc arms)
                (arms_give arms) there (λ d m. m) (λ d m. m) (arms_given program M f sc v arms) Fa.0 in
                let F3 = facts_condition program M f sc guard site ys x.varies x.state y.state
                (expressions_of_arms arms) c (conditions_of_arms sc arms) there apart1 Ft.0 (λ k h. h)
                (λ k h. h) F2 in
                let F4 = facts_both program M f sc sc guard s x.state y.state (parts_of v) (expressions_of_arms arms)
                (conditions_in sc v) (c ∷ conditions_of_arms sc arms) (gives_in v) there
                (gives (Switch site v arms)) (λ k h. h) rt.0 ra.0 (switch_splits program M f sc site v arms) Ft.1 F3 in
                let O3 = outs_both program M f sc sc (conditions_in sc v) (conditions_of_arms sc arms) []
                (returned_arms arms)
                false y.ways.escapes y.ways.escapes (λ h. cc h) (λ h. h) (λ k has e on. inl has)
                (outs_quiet program M f sc (conditions_in sc v) false (no_exit sc v)) Fa.1 in (
                  facts_less program M f sc guard s y.state (parts_of v ++ expressions_of_arms arms) (parts_of v ++
                      expressions_of_arms arms) (conditions_in sc v ++ (c ∷ conditions_of_arms sc arms))
                      (conditions_of sc (Switch site v arms)) (gives (Switch site v arms)) (gives (Switch site v arms))
                      (λ d m. m) (λ d m. swap program M f c d (conditions_in sc v) (conditions_of_arms sc arms) m)
                      (λ k h. h) F4,
                  (outs_condition program M f) sc c (conditions_in sc v ++ conditions_of_arms sc arms)
                      (returned_arms arms) x.varies y.ways Ft.0 ra.1 ra.2 (λ k h. h) O3,
                ),
          )
      gone_full (Break site) sc guard s ok cover apart = (
        onto_same f sc s,
        (λ h. refl),
        (λ h. refl),
        λ fin. (
          facts_none program M f sc guard s s (gives (Break site))
              (λ k h. no_gives program M f (Break site) k (lone_break program M f site k) h),
          (outs_quiet program M f) sc [] false (λ c m. absurd m),
        ),
      )
      gone_full (Continue site) sc guard s ok cover apart = (
        onto_same f sc s,
        (λ h. refl),
        (λ h. refl),
        λ fin. (
          facts_none program M f sc guard s s (gives (Continue site))
              (λ k h. no_gives program M f (Continue site) k (lone_continue program M f site k) h),
          (outs_quiet program M f) sc [] false (λ c m. absurd m),
        ),
      )
      gone_full (Return site None) sc guard s ok cover apart =
          let t = known.give (S guard) false s in (
            assign_onto program M f valid sc guard Answer false s,
            (λ h. refl),
            (λ h. refl),
            λ fin. (
              facts_less program M f sc guard s t [] [] [] [] is_answer (gives (Return site None)) (λ d m. m) (λ d m. m)
                  (λ k h. return_none site k h) (answer_facts sc guard false s fin),
              record { out = λ c m. absurd m; beside = λ c m. absurd m; back = λ e m. absurd m },
            ),
          )
      gone_full (Return site (Some e)) sc guard s ok cover apart =
          let o = good_return (InBody program f) (UnderBody program f) (BackBody program f) sc site e ok in
          let v = seen_in F' (S guard) e s in
          let t = known.give (S guard) v.varies v.state in
          let r = seen_full program M f valid e sc guard s o.1 (apart_rest f guard s sc site (sites_in e) apart) in
          let d = assign_onto program M f valid sc guard Answer v.varies v.state in (
            onto_then f sc s v.state t r.0 d,
            (λ h. refl),
            (λ h. refl),
            λ fin.
                let F = r.1 (final_before M f sc v.state t d fin) in
                let A = answer_facts sc guard v.varies v.state fin in
                let B = facts_both program M f sc sc guard s v.state t (parts_of e) [] (conditions_in sc e) []
                (gives_in e) is_answer (gives (Return site (Some e))) (λ k h. h) r.0 d
                (return_splits site e) F.1 A in (
                  facts_less program M f sc guard s t (parts_of e ++ []) (parts_of e) (conditions_in sc e ++ [])
                      (conditions_in sc e) (gives (Return site (Some e))) (gives (Return site (Some e)))
                      (λ z m. in_left (parts_of e) [] z m) (λ z m. in_left (conditions_in sc e) [] z m) (λ k h. h) B,
                  record {
                    out = λ c m x y. absurd (let q : true ≡ false = sym y ∙ no_exit sc e c m in cc q);
                    beside = λ c m x y. absurd (let q : true ≡ false = sym y ∙ no_exit sc e c m in cc q);
                    back = λ z m x. elim m [
                      | inl q ↦ assign_marked program M f valid guard Answer v.varies v.state fin
                          (inl (F.0 (subst (λ w. BM w ≡ true) (sym q) x)))
                      | inr i ↦ absurd i
                    ];
                  },
                ),
          )
      gone_full (Barrier site) sc guard s ok cover apart = (
        onto_same f sc s,
        (λ h. cc h),
        (λ h. cc h),
        λ fin. (
          facts_none program M f sc guard s s (gives (Barrier site))
              (λ k h. no_gives program M f (Barrier site) k (lone_barrier program M f site k) h),
          (outs_quiet program M f) sc [] false (λ c m. absurd m),
        ),
      )

      pub all_full : (list : Statements) (sc : Scope) (guard : Option ℕ) (s : State) → GL sc list →
          Cover (given program M f) (some_assigns list) (all_declarations list) →
          Apart f guard s sc (sites_of_all list) →
          GoneAll sc guard s list
      all_full empty sc guard s ok cover apart = (
        onto_same f sc s,
        (λ h. cc h),
        (λ h. cc h),
        λ fin. (
          facts_none program M f sc guard s s (some_give empty) (none_given program M f),
          (outs_quiet program M f) sc [] false (λ c m. absurd m),
        ),
      )
      all_full (also x rest) sc guard s ok cover apart =
          let o = good_also (InBody program f) (UnderBody program f) (BackBody program f) sc x rest ok in
          let sc' : Scope = scope_after sc x in
          let a = gone_over F' (S guard) x s in
          let b = gone_over_all F' (S guard) rest a.state in
          let t = closed (S guard) x b.ways.escapes b.state in
          let ra = gone_full x sc guard s o.0 (cover_first sc (given program M f) x rest ok.names cover)
          (apart_left f guard s sc (sites_of x) (sites_of_all rest) apart) in
          let rb = all_full rest sc' guard a.state o.1 (cover_rest sc (given program M f) x rest ok.names cover)
          (apart_behind x sc guard s (sites_of_all rest) ra.0
          (apart_right f guard s sc (sites_of x) (sites_of_all rest) apart)) in
          let rb' : Onto f sc a.state b.state = narrow sc x a.state b.state rb.0 in
          let rc = closed_full sc x b.ways.escapes guard b.state in
          let onto2 = onto_then f sc a.state b.state t rb' rc.0 in (
            onto_then f sc s a.state t ra.0 onto2,
            (λ h. elim (either (exits x) (some_exits rest) h) [
              | inl q ↦ or_right b.ways.exits a.ways.exits
                  (ra.1 q)
              | inr q ↦ or_left b.ways.exits a.ways.exits (rb.1 q)
            ]),
            (joined_held program M f) b.ways a.ways rb.2 ra.2,
            λ fin.
                let fb = final_before M f sc b.state t rc.0 fin in
                let Fa = ra.3 (final_before M f sc a.state t onto2 fin) in
                let Fb = rb.3 fb in
                let F2 = facts_both program M f sc sc' guard s a.state b.state (expressions_of x)
                (expressions_of_list rest) (conditions_of sc x) (conditions_of_list sc' rest) (gives x)
                (some_give rest) (some_give (also x rest)) (has_after sc x) ra.0 rb'
                (also_splits program M f x rest) Fa.0
                Fb.0 in
                let F3 = facts_on program M f sc guard s b.state t (expressions_of x ++ expressions_of_list rest)
                (conditions_of sc x ++ conditions_of_list sc' rest) (some_give (also x rest)) rc.0 F2 in
                let O2 = outs_both program M f sc sc' (conditions_of sc x) (conditions_of_list sc' rest) (returned x)
                (returned_list rest) a.ways.escapes b.ways.escapes (b.ways.escapes || a.ways.escapes)
                (or_right b.ways.escapes a.ways.escapes) (or_left b.ways.escapes a.ways.escapes)
                (λ k has e on. rc.1 fin k has e (λ y value q kq.
                Fb.0.flags (Cell y) (cover_declared sc (given program M f) y value rest
                (subst (λ z. IsScopedList sc (also z rest)) q ok.names)
                (subst (λ z. Cover (given program M f) (some_assigns (also z rest))
                (all_declarations (also z rest))) q cover)
                (subst (λ z. some_give (function_at program f).body z ≡ true) kq on))
                (subst (HasKey sc') kq has))) Fa.1 Fb.1 in (
                  subst (λ cs. FA sc guard s t (expressions_of x ++ expressions_of_list rest) cs
                      (some_give (also x rest))) (sym (conditions_also sc x rest)) F3,
                  subst (λ cs. Outs program M f sc cs (returned x ++ returned_list rest)
                      (b.ways.escapes || a.ways.escapes)) (sym (conditions_also sc x rest)) O2,
                ),
          )

      arms_full : (arms : Arms) (sc : Scope) (guard : Option ℕ) (s : State) → GM sc arms →
          Cover (given program M f) (arms_assign arms) (arms_declarations arms) →
          Apart f guard s sc (sites_of_arms arms) →
          GoneArms sc guard s arms
      arms_full no_arm sc guard s ok cover apart = (
        onto_same f sc s,
        (λ h. cc h),
        (λ h. cc h),
        λ fin. (
          facts_none program M f sc guard s s (arms_give no_arm) (no_arm_given program M f),
          (outs_quiet program M f) sc [] false (λ c m. absurd m),
        ),
      )
      arms_full (arm labels other body rest) sc guard s ok cover apart =
          let o = good_arm (InBody program f) (UnderBody program f) (BackBody program f) sc labels other body rest ok in
          let a = gone_over_all F' (S guard) body s in
          let b = gone_over_arms F' (S guard) rest a.state in
          let ra = all_full body sc guard s o.0 (cover_arm sc (given program M f) labels other body rest ok.names cover)
          (apart_left f guard s sc (sites_of_all body) (sites_of_arms rest) apart) in
          let rb = arms_full rest sc guard a.state o.1
          (cover_arms_rest sc (given program M f) labels other body rest ok.names
          cover) (apart_on f guard s a.state sc (sites_of_arms rest) ra.0
          (apart_right f guard s sc (sites_of_all body) (sites_of_arms rest) apart)) in (
            onto_then f sc s a.state b.state ra.0 rb.0,
            (λ h. elim (either (some_exits body) (arms_exit rest) h) [
              | inl q ↦ or_right b.ways.exits a.ways.exits
                  (ra.1 q)
              | inr q ↦ or_left b.ways.exits a.ways.exits (rb.1 q)
            ]),
            (joined_held program M f) b.ways a.ways rb.2 ra.2,
            λ fin.
                let Fa = ra.3 (final_before M f sc a.state b.state rb.0 fin) in
                let Fb = rb.3 fin in (
                  facts_both program M f sc sc guard s a.state b.state (expressions_of_list body)
                      (expressions_of_arms rest) (conditions_of_list sc body) (conditions_of_arms sc rest)
                      (some_give body) (arms_give rest) (arms_give (arm labels other body rest)) (λ k h. h) ra.0 rb.0
                      (arm_splits program M f labels other body rest) Fa.0 Fb.0,
                  (outs_both program M f) sc sc (conditions_of_list sc body) (conditions_of_arms sc rest)
                      (returned_list body) (returned_arms rest) a.ways.escapes b.ways.escapes
                      (b.ways.escapes || a.ways.escapes)
                      (or_right b.ways.escapes a.ways.escapes) (or_left b.ways.escapes a.ways.escapes) (λ k has e on.
                      inl has) Fa.1 Fb.1,
                ),
          )
