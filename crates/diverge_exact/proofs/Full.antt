-- What varies is marked: in a round that adds nothing, what is found in an expression obeys the rules.
use Rattle.std.proofs.Common.{◌≡◌, ◌≢◌, ℕ, zero, suc, ◌+◌, Bool, true, false, ◌||◌, not, cond, nat_eq, List, [], ◌∷◌}
use Rattle.std.proofs.Common.{◌++◌, Option, Some, ◌⊎◌, inl, inr, refl, sym, ap, ◌∙◌, subst, arith}
use Rattle.std.proofs.lemmas.Bool.{eqb-true}
use Rattle.cl_model.specs.declared.program.Root.{Root}
use Rattle.cl_model.specs.Tree.{Action, Literal, Variable, Unary, Binary, Builtin, Convert, Ask, Second, Truth}
use Rattle.cl_model.specs.Tree.{Decided, Set, Change, Load, Store, Expression, Apply, Update, Choose, Call}
use Rattle.cl_model.specs.Tree.{Expressions, none, more, Function, Program}
use Rattle.cl_model.specs.Lists.{IsOneOf}
use Rattle.cl_model.specs.Calls.{function_at}
use Rattle.cl_model.specs.Valid.{Scope, action_sites, sites_in, sites_among, IsValid}
use Rattle.cl_model.specs.Varying.{Condition, sets, conditions_in, conditions_among, parts_of, parts_among, IsNth}
use Rattle.cl_model.specs.Varying.{is_own, is_constant_root, is_store}
use Rattle.diverge.specs.declared.known.Entry.{Entry}
use Rattle.diverge.specs.declared.known.Spot.{Spot}
use Rattle.diverge.specs.Known as known
use Rattle.diverge.specs.Known.{State, variable_at, with_variable, same_guard, assign, pass}
use Rattle.diverge.specs.Rounds.{Seen, varies_itself, settled, seen_in, seen_among, seen_arguments}
use Rattle.diverge_sound.proofs.Keeps.{or_left, or_right, Key, Answer, Cell, HasKey, sets_key, gives_in, gives_among}
use Rattle.diverge_sound.proofs.Parts.{in_left, in_right, Good, GoodAll, good_apply, good_more, good_update}
use Rattle.diverge_sound.proofs.Parts.{good_choose, good_call, choice_condition}
use Rattle.diverge_sound.proofs.Values.{InBody, UnderBody, BackBody, cond_gives}
use Rattle.diverge_sound.proofs.Nesting.{in_either}
use Rattle.diverge_exact.proofs.Slots.{entry, with_key}
use Rattle.diverge_exact.proofs.Sound.{either, fn, spot, store_two}
use Rattle.diverge_exact.proofs.Steps.{Onto, onto_same, onto_then, onto_change, Final, final_before, marked_new, Flag}
use Rattle.diverge_exact.proofs.Steps.{flag_new, flag_on, Apart, apart_left, apart_right, apart_rest, apart_on}
use Rattle.diverge_exact.proofs.Steps.{apart_under, not_since, not_under}

module _ (program : Program) (M : ℕ → Key → Bool) (f : ℕ) where
  -- an action varies by the marks, whatever its operands do
  abbrev pub by_itself : Action → Bool
  by_itself (Ask what) = is_own what
  by_itself (Load site element root) = not (is_constant_root (function_at program f) root)
  by_itself (Variable x) = M f (Cell x)
  by_itself _ = false

  -- an expression varies by the marks; some of the expressions do; the second does
  abbrev mutual
    pub by_marks : Expression → Bool
    by_marks (Apply action es) = cond (is_store action) (by_second es) (by_itself action || by_some es)
    by_marks (Update site element root op of back old index value) = true
    by_marks (Choose site t a b) = by_marks t || (by_marks a || by_marks b)
    by_marks (Call site g roots es) = M g Answer

    pub by_some : Expressions → Bool
    by_some none = false
    by_some (more e rest) = by_marks e || by_some rest

    pub by_first : Expressions → Bool
    by_first none = false
    by_first (more e rest) = by_marks e

    pub by_second : Expressions → Bool
    by_second none = false
    by_second (more e rest) = by_first rest

  abbrev pub by_final : Expressions → Bool
  by_final none = false
  by_final (more e none) = by_marks e
  by_final (more e (more c rest)) = by_final (more c rest)

  -- what the marks obey in code with these expressions and conditions, from one state to another
  pub record Facts (sc : Scope) (guard : Option ℕ) (s t : State) (parts : List Expression) (conds : List Condition)
      (there : Key → Bool) : Type 0 where
    pub assigns : (action : Action) (es : Expressions) (x : ℕ) → IsOneOf parts (Apply action es) →
        sets action x ≡ true → by_marks (Apply action es) ≡ true → M f (Cell x) ≡ true
    pub passes : (site g : ℕ) (roots : List (Option Root)) (es : Expressions) → IsOneOf parts (Call site g roots es) →
        g ≢ program.kernel → (n : ℕ) (e : Expression) → IsNth es n e → by_marks e ≡ true → M g (Cell n) ≡ true
    pub under : (c : Condition) → IsOneOf conds c → by_marks c.test ≡ true → (k : Key) → HasKey c.scope k →
        cond_gives program f c k ≡ true → M f k ≡ true
    pub guarded : (k : Key) → there k ≡ true → HasKey sc k → same_guard (entry s f k).since guard ≡ false → M f k ≡ true
    pub flags : (k : Key) → there k ≡ true → HasKey sc k → Flag M f t k

  pub facts_none : (sc : Scope) (guard : Option ℕ) (s t : State) (there : Key → Bool) →
      ((k : Key) → there k ≡ true → ⊥) → Facts sc guard s t [] [] there
  facts_none sc guard s t there no' = record {
    assigns = λ a es x m. absurd m;
    passes = λ i g r es m. absurd m;
    under = λ c m. absurd m;
    guarded = λ k h. absurd (no' k h);
    flags = λ k h. absurd (no' k h);
  }

  -- one part behind the other
  pub facts_both : (sc sc' : Scope) (guard : Option ℕ) (s m t : State) (xs ys : List Expression)
      (cs ds : List Condition) (a b there : Key → Bool) → ((k : Key) → HasKey sc k → HasKey sc' k) → Onto f sc s m →
      Onto f sc m t → ((k : Key) → there k ≡ true → (a k ≡ true) ⊎ (b k ≡ true))
      → Facts sc guard s m xs cs a → Facts sc' guard m t ys ds b → Facts sc guard s t (xs ++ ys) (cs ++ ds) there
  facts_both sc sc' guard s m t xs ys cs ds a b there inside one two split F G = record {
    assigns = λ action es x i. elim (in_either xs ys _ i) [
      | inl j ↦ F.assigns action es x j
      | inr j ↦
          G.assigns action es x j
    ];
    passes = λ site g roots es i. elim (in_either xs ys _ i) [
      | inl j ↦ F.passes site g roots es j
      | inr j ↦
          G.passes site g roots es j
    ];
    under = λ c i. elim (in_either cs ds _ i) [ inl j ↦ F.under c j | inr j ↦ G.under c j ];
    guarded = λ k h has away. elim (split k h) [
      | inl j ↦ F.guarded k j has away
      | inr j ↦
          G.guarded k j (inside k has) (ap (λ o. same_guard o guard) (one.since f k (λ _. has)) ∙ away)
    ];
    flags = λ k h has. elim (split k h) [
      | inl j ↦ flag_on M f sc m t k two (F.flags k j has)
      | inr j ↦
          G.flags k j (inside k has)
    ];
  }

  -- fewer expressions and conditions, and less that is assigned
  pub facts_less : (sc : Scope) (guard : Option ℕ) (s t : State) (xs ys : List Expression) (cs ds : List Condition)
      (a b : Key → Bool) → ((e : Expression) → IsOneOf ys e → IsOneOf xs e) →
      ((c : Condition) → IsOneOf ds c → IsOneOf cs c) → ((k : Key) → b k ≡ true → a k ≡ true)
      → Facts sc guard s t xs cs a → Facts sc guard s t ys ds b
  facts_less sc guard s t xs ys cs ds a b xy cd ab F = record {
    assigns = λ action es x i. F.assigns action es x (xy _ i);
    passes = λ site g roots es i. F.passes site g roots es (xy _ i);
    under = λ c i. F.under c (cd _ i);
    guarded = λ k h. F.guarded k (ab k h);
    flags = λ k h. F.flags k (ab k h);
  }

  -- a state behind
  pub facts_on : (sc : Scope) (guard : Option ℕ) (s t u : State) (xs : List Expression) (cs : List Condition)
      (a : Key → Bool) → Onto f sc t u → Facts sc guard s t xs cs a → Facts sc guard s u xs cs a
  facts_on sc guard s t u xs cs a onto F = record {
    assigns = F.assigns;
    passes = F.passes;
    under = F.under;
    guarded = F.guarded;
    flags = λ k h has. flag_on M f sc t u k onto (F.flags k h has);
  }

  -- a node with its parts
  pub facts_node : (sc : Scope) (guard : Option ℕ) (s t : State) (d : Expression) (xs : List Expression)
      (cs : List Condition) (a : Key → Bool) → ((action : Action) (es : Expressions) (x : ℕ) → d ≡ Apply action es →
      sets action x ≡ true → by_marks (Apply action es) ≡ true → M f (Cell x) ≡ true)
      → ((site g : ℕ) (roots : List (Option Root)) (es : Expressions) → d ≡ Call site g roots es →
      g ≢ program.kernel → (n : ℕ) (e : Expression) → IsNth es n e → by_marks e ≡ true → M g (Cell n) ≡ true) →
      Facts sc guard s t xs cs a → Facts sc guard s t (d ∷ xs) cs a
  facts_node sc guard s t d xs cs a one two F = record {
    assigns = λ action es x i. elim i [ inl q ↦ one action es x q | inr j ↦ F.assigns action es x j ];
    passes = λ site g roots es i. elim i [ inl q ↦ two site g roots es q | inr j ↦ F.passes site g roots es j ];
    under = F.under;
    guarded = F.guarded;
    flags = F.flags;
  }

  -- parts under a condition, with the condition
  pub facts_condition : (sc : Scope) (guard : Option ℕ) (site : ℕ) (ys : List ℕ) (varies : Bool) (s t : State)
      (xs : List Expression) (c : Condition) (cs : List Condition) (a : Key → Bool) → Apart f guard s sc (site ∷ ys) →
      (by_marks c.test ≡ true → varies ≡ true) → ((k : Key) → HasKey c.scope k → HasKey sc k)
      → ((k : Key) → cond_gives program f c k ≡ true → a k ≡ true) →
      Facts sc (cond varies (Some site) guard) s t xs cs a → Facts sc guard s t xs (c ∷ cs) a
  facts_condition sc guard site ys varies s t xs c cs a apart value inside gives F = record {
    assigns = F.assigns;
    passes = F.passes;
    under = λ d i v k has on. elim i [
      | inl q ↦
          let v' : varies ≡ true = value (subst (λ (x : Condition). by_marks x.test ≡ true) (sym q) v) in
          let has' : HasKey sc k = inside k (subst (λ (x : Condition). HasKey x.scope k) (sym q) has) in
          let on' : a k ≡ true = gives k (subst (λ x. cond_gives program f x k ≡ true) (sym q) on) in
          F.guarded k on' has' (subst (λ b. same_guard (entry s f k).since (cond b (Some site) guard) ≡ false)
          (sym v') (not_since f guard s sc site ys apart k has'))
      | inr j ↦ F.under d j v k has on
    ];
    guarded = λ k h has away. F.guarded k h has (not_under f guard s sc site ys varies apart k has away);
    flags = F.flags;
  }

  -- the same without one
  pub facts_inner : (sc : Scope) (guard : Option ℕ) (site : ℕ) (ys : List ℕ) (varies : Bool) (s t : State)
      (xs : List Expression) (cs : List Condition) (a : Key → Bool) → Apart f guard s sc (site ∷ ys) →
      Facts sc (cond varies (Some site) guard) s t xs cs a → Facts sc guard s t xs cs a
  facts_inner sc guard site ys varies s t xs cs a apart F = record {
    assigns = F.assigns;
    passes = F.passes;
    under = F.under;
    guarded = λ k h has away.
        F.guarded k h has (not_under f guard s sc site ys varies apart k has away);
    flags = F.flags;
  }

  -- what gives a value somewhere gives it in a part

  split_more : (e : Expression) (rest : Expressions) (k : Key) → gives_among (more e rest) k ≡ true →
      (gives_in e k ≡ true) ⊎ (gives_among rest k ≡ true)
  split_more e rest Answer h = cc h
  split_more e rest (Cell x) h = either _ _ h

  split_apply : (action : Action) (es : Expressions) (k : Key) → gives_in (Apply action es) k ≡ true →
      (sets_key action k ≡ true) ⊎ (gives_among es k ≡ true)
  split_apply action es Answer h = cc h
  split_apply action es (Cell x) h = either _ _ h

  module _ (valid : IsValid program) where
    abbrev GE : Scope → Expression → Type 0
    GE = Good (InBody program f) (UnderBody program f) (BackBody program f)

    abbrev GA : Scope → Expressions → Type 0
    GA = GoodAll (InBody program f) (UnderBody program f) (BackBody program f)

    abbrev pub sp : Option ℕ → Spot
    sp = spot program valid f

    abbrev pub fun : Function
    fun = fn program valid f

    -- an assignment
    pub assign_onto : (sc : Scope) (guard : Option ℕ) (k : Key) (varies : Bool) (s : State) →
        Onto f sc s (with_key f k (known.assigned guard varies (entry s f k)) s)
    assign_onto sc guard k varies s =
        onto_change f sc f k (known.assigned guard varies (entry s f k)) s (λ h. or_left (entry s f k).varies _ h)
        (λ h. refl) refl

    pub assign_marked : (guard : Option ℕ) (k : Key) (varies : Bool) (s : State) →
        Final M (with_key f k (known.assigned guard varies (entry s f k)) s) → (varies ≡ true) ⊎
        (same_guard (entry s f k).since guard ≡ false) → M f k ≡ true
    assign_marked guard k varies s fin h =
        let old = entry s f k in
        marked_new M f k (known.assigned guard varies old) s fin
        (or_right old.varies (varies || not (same_guard old.since guard)) (elim h [
          | inl v ↦
              or_left varies _ v
          | inr q ↦ or_right varies _ (ap not q)
        ]))

    abbrev Settling : Scope → Option ℕ → Action → Seen → Type 0
    Settling sc guard action r =
        let t = settled (sp guard) action r in
        Onto f sc r.state t.state × (t.varies ≡ r.varies)
        × (Final M t.state → ((x : ℕ) → sets action x ≡ true → r.varies ≡ true → M f (Cell x) ≡ true) ×
        ((k : Key) → sets_key action k ≡ true → (same_guard (entry r.state f k).since guard ≡ false →
        M f k ≡ true) × Flag M f t.state k))

    set_settles : (sc : Scope) (guard : Option ℕ) (x : ℕ) (there : ℕ → Bool) (key : Key → Bool) (r : Seen) →
        ((y : ℕ) → there y ≡ true → x ≡ y) → ((k : Key) → key k ≡ true → k ≡ Cell x) → let t =
        assign (sp guard) x r.varies r.state in
        Onto f sc r.state t × (Final M t → ((y : ℕ) → there y ≡ true → r.varies ≡ true → M f (Cell y) ≡ true) ×
        ((k : Key) → key k ≡ true → (same_guard (entry r.state f k).since guard ≡ false → M f k ≡ true) ×
        Flag M f t k))
    set_settles sc guard x there key r same same_key =
        let t = assign (sp guard) x r.varies r.state in (
          assign_onto sc guard (Cell x) r.varies r.state,
          λ fin. (
            (λ y h v. subst (λ z. M f (Cell z) ≡ true) (same y h) (assign_marked guard (Cell x) r.varies r.state fin
                (inl v))),
            λ k h. (
              (λ away. subst (λ z. M f z ≡ true) (sym (same_key k h)) (assign_marked guard (Cell x) r.varies r.state
                  fin (inr (subst (λ z. same_guard (entry r.state f z).since guard ≡ false) (same_key k h) away)))),
              subst (λ z. Flag M f t z) (sym (same_key k h))
                  (flag_new M f (Cell x) (known.assigned guard r.varies (variable_at r.state f x)) r.state fin refl),
            ),
          ),
        )

    key_of : (x : ℕ) (k : Key) → sets_key (Set x) k ≡ true → k ≡ Cell x
    key_of x Answer h = cc h
    key_of x (Cell y) h = ap Cell (sym (eqb-true x y h))

    change_key : (x : ℕ) (op of back old : _) (k : Key) → sets_key (Change x op of back old) k ≡ true → k ≡ Cell x
    change_key x op of back old Answer h = cc h
    change_key x op of back old (Cell y) h = ap Cell (sym (eqb-true x y h))

    no_key : (action : Action) → ((x : ℕ) → sets action x ≡ false) → (k : Key) → sets_key action k ≡ true → ⊥
    no_key action lone Answer h = cc h
    no_key action lone (Cell x) h = let q : true ≡ false = sym h ∙ lone x in cc q

    settles_none : (sc : Scope) (guard : Option ℕ) (action : Action) (r : Seen) → settled (sp guard) action r ≡ r →
        ((x : ℕ) → sets action x ≡ false) → Settling sc guard action r
    settles_none sc guard action r same lone = (
      subst (λ (t : Seen). Onto f sc r.state t.state) (sym same) (onto_same f sc r.state),
      ap (λ (t : Seen). t.varies) same,
      λ fin. ((λ x h v. let q : true ≡ false = sym h ∙ lone x in cc q), λ k h. absurd (no_key action lone k h)),
    )

    settles : (sc : Scope) (guard : Option ℕ) (action : Action) (r : Seen) → Settling sc guard action r
    settles sc guard (Set x) r = let z =
        set_settles sc guard x (sets (Set x)) (sets_key (Set x)) r (λ y h. eqb-true x y h) (key_of x) in
        (z.0, refl, z.1)
    settles sc guard (Change x op of back old) r = let z =
        set_settles sc guard x (sets (Change x op of back old)) (sets_key (Change x op of back old)) r
        (λ y h. eqb-true x y h) (change_key x op of back old) in (z.0, refl, z.1)
    settles sc guard (Literal value of) r = settles_none sc guard (Literal value of) r refl (λ x. refl)
    settles sc guard (Variable y) r = settles_none sc guard (Variable y) r refl (λ x. refl)
    settles sc guard (Unary op of) r = settles_none sc guard (Unary op of) r refl (λ x. refl)
    settles sc guard (Binary op of) r = settles_none sc guard (Binary op of) r refl (λ x. refl)
    settles sc guard (Builtin b of) r = settles_none sc guard (Builtin b of) r refl (λ x. refl)
    settles sc guard (Convert t) r = settles_none sc guard (Convert t) r refl (λ x. refl)
    settles sc guard (Ask what) r = settles_none sc guard (Ask what) r refl (λ x. refl)
    settles sc guard Second r = settles_none sc guard Second r refl (λ x. refl)
    settles sc guard Truth r = settles_none sc guard Truth r refl (λ x. refl)
    settles sc guard (Decided answer) r = settles_none sc guard (Decided answer) r refl (λ x. refl)
    settles sc guard (Load site element root) r = settles_none sc guard (Load site element root) r refl (λ x. refl)
    settles sc guard (Store site element root) r = settles_none sc guard (Store site element root) r refl (λ x. refl)

    itself_found : (guard : Option ℕ) (action : Action) (s : State) → Final M s → by_itself action ≡ true →
        varies_itself fun (sp guard) action s ≡ true
    itself_found guard (Ask what) s fin h = h
    itself_found guard (Load site element root) s fin h = h
    itself_found guard (Variable x) s fin h = fin.1 f (Cell x) ∙ h
    itself_found guard (Literal value of) s fin h = cc h
    itself_found guard (Unary op of) s fin h = cc h
    itself_found guard (Binary op of) s fin h = cc h
    itself_found guard (Builtin b of) s fin h = cc h
    itself_found guard (Convert t) s fin h = cc h
    itself_found guard Second s fin h = cc h
    itself_found guard Truth s fin h = cc h
    itself_found guard (Decided answer) s fin h = cc h
    itself_found guard (Set x) s fin h = cc h
    itself_found guard (Change x op of back old) s fin h = cc h
    itself_found guard (Store site element root) s fin h = cc h

    second_final : (es : Expressions) (d e : Expression) → es ≡ more d (more e none) → by_second es ≡ true →
        by_final es ≡ true
    second_final es d e q h = subst (λ xs. by_final xs ≡ true) (sym q) (subst (λ xs. by_second xs ≡ true) q h)

    -- by the kind of the action
    apply_value : (action : Action) (es : Expressions) (first : Bool) (found : Bool) →
        InBody program f (Apply action es) → (by_itself action ≡ true → first ≡ true) →
        (is_store action ≡ false → (first ≡ true) ⊎ (by_some es ≡ true) → found ≡ true) →
        (is_store action ≡ true → by_final es ≡ true → found ≡ true)
        → by_marks (Apply action es) ≡ true → found ≡ true
    apply_value (Store site element root) es first found inside itself one two h = let (d, e, q) =
        store_two program valid f site element root es inside in two refl (second_final es d e q h)
    apply_value (Literal value of) es first found inside itself one two h = one refl (inr h)
    apply_value (Variable y) es first found inside itself one two h =
        one refl (elim (either _ _ h) [ inl q ↦ inl (itself q) | inr q ↦ inr q ])
    apply_value (Unary op of) es first found inside itself one two h = one refl (inr h)
    apply_value (Binary op of) es first found inside itself one two h = one refl (inr h)
    apply_value (Builtin b of) es first found inside itself one two h = one refl (inr h)
    apply_value (Convert t) es first found inside itself one two h = one refl (inr h)
    apply_value (Ask what) es first found inside itself one two h =
        one refl (elim (either _ _ h) [ inl q ↦ inl (itself q) | inr q ↦ inr q ])
    apply_value Second es first found inside itself one two h = one refl (inr h)
    apply_value Truth es first found inside itself one two h = one refl (inr h)
    apply_value (Decided answer) es first found inside itself one two h = one refl (inr h)
    apply_value (Set x) es first found inside itself one two h = one refl (inr h)
    apply_value (Change x op of back old) es first found inside itself one two h = one refl (inr h)
    apply_value (Load site element root) es first found inside itself one two h =
        one refl (elim (either _ _ h) [ inl q ↦ inl (itself q) | inr q ↦ inr q ])

    swap : (c d : Condition) (xs ys : List Condition) → IsOneOf (c ∷ (xs ++ ys)) d → IsOneOf (xs ++ (c ∷ ys)) d
    swap c d xs ys (inl q) = in_right xs (c ∷ ys) d (inl q)
    swap c d xs ys (inr h) =
        elim (in_either xs ys d h) [ inl i ↦ in_left xs (c ∷ ys) d i | inr i ↦ in_right xs (c ∷ ys) d (inr i) ]

    split_choice : (sc : Scope) (site : ℕ) (t a b : Expression) (k : Key) → gives_in (Choose site t a b) k ≡ true →
        (gives_in t k ≡ true) ⊎ (cond_gives program f (choice_condition sc t a b) k ≡ true)
    split_choice sc site t a b Answer h = cc h
    split_choice sc site t a b (Cell x) h = either _ _ h

    split_arms : (sc : Scope) (t a b : Expression) (k : Key) → cond_gives program f (choice_condition sc t a b) k ≡
        true → (gives_in a k ≡ true) ⊎ (gives_in b k ≡ true)
    split_arms sc t a b Answer h = cc h
    split_arms sc t a b (Cell x) h = either _ _ h

    split_update : (site : ℕ) (element root op of back old : _) (i v : Expression) (k : Key) →
        gives_in (Update site element root op of back old i v) k ≡ true → (gives_in i k ≡ true) ⊎ (gives_in v k ≡ true)
    split_update site element root op of back old i v Answer h = cc h
    split_update site element root op of back old i v (Cell x) h = either _ _ h

    call_gives : (site g : ℕ) (roots : List (Option Root)) (es : Expressions) (k : Key) →
        gives_in (Call site g roots es) k ≡ true → gives_among es k ≡ true
    call_gives site g roots es Answer h = cc h
    call_gives site g roots es (Cell x) h = h

    nothing_given : (k : Key) → gives_among none k ≡ true → ⊥
    nothing_given Answer h = cc h
    nothing_given (Cell x) h = cc h

    -- an argument
    pass_full : (sc : Scope) (guard : Option ℕ) (g n : ℕ) (varies : Bool) (s : State) →
        Onto f sc s (pass (sp guard) g n varies s) × (Final M (pass (sp guard) g n varies s) → varies ≡ true →
        g ≢ program.kernel → M g (Cell n) ≡ true)
    pass_full sc guard g n varies s = by_kernel (nat_eq g program.kernel) refl
      where
        now : Entry
        now = known.passed varies (variable_at s g n)

        by_kernel : (b : Bool) → nat_eq g program.kernel ≡ b → Onto f sc s (cond b s (with_variable g n now s)) ×
            (Final M (cond b s (with_variable g n now s)) → varies ≡ true → g ≢ program.kernel → M g (Cell n) ≡ true)
        by_kernel true q = (onto_same f sc s, λ fin v ne. absurd (ne (eqb-true g program.kernel q)))
        by_kernel false q = (
          onto_change f sc g (Cell n) now s (λ h. or_left (variable_at s g n).varies varies h) (λ h. h) refl,
          λ fin v ne. marked_new M g (Cell n) now s fin (or_right (variable_at s g n).varies varies v),
        )

    some_value : (last : Bool) (e : Expression) (rest : Expressions) (before now found : Bool) →
        (by_marks e ≡ true → now ≡ true) →
        (last ≡ false → (cond last now (before || now) ≡ true) ⊎ (by_some rest ≡ true) → found ≡ true)
        → last ≡ false → (before ≡ true) ⊎ (by_some (more e rest) ≡ true) → found ≡ true
    some_value false e rest before now found one more' q (inl h) = more' q (inl (or_left before now h))
    some_value false e rest before now found one more' q (inr h) =
        elim (either (by_marks e) (by_some rest) h) [
          | inl z ↦ more' q (inl (or_right before now (one z)))
          | inr z ↦
              more' q (inr z)
        ]
    some_value true e rest before now found one more' q h = cc q

    final_value : (guard : Option ℕ) (last : Bool) (e : Expression) (rest : Expressions) (before now : Bool)
        (s : State) → (by_marks e ≡ true → now ≡ true)
        → (last ≡ true → by_final rest ≡ true →
        (seen_among fun (sp guard) last rest (record {
          varies = cond last now (before || now);
          state = s;
        })).varies ≡ true)
        → last ≡ true → by_final (more e rest) ≡ true →
        (seen_among fun (sp guard) last rest (record {
          varies = cond last now (before || now);
          state = s;
        })).varies ≡ true
    final_value guard true e none before now s one more' q h = one h
    final_value guard false e none before now s one more' q h = cc q
    final_value guard last e (more c rest) before now s one more' q h = more' q h

    argument_marks : (n g : ℕ) (e : Expression) (rest : Expressions) →
        (by_marks e ≡ true → g ≢ program.kernel → M g (Cell n) ≡ true) →
        ((j : ℕ) (d : Expression) → IsNth rest j d → by_marks d ≡ true → g ≢ program.kernel →
        M g (Cell (suc n + j)) ≡ true)
        → (j : ℕ) (d : Expression) → IsNth (more e rest) j d → by_marks d ≡ true → g ≢ program.kernel →
        M g (Cell (n + j)) ≡ true
    argument_marks n g e rest one more' zero d at v ne = let z : n ≡ n + 0 =
        omega arith in subst (λ i. M g (Cell i) ≡ true) z (one (subst (λ x. by_marks x ≡ true) (sym at) v) ne)
    argument_marks n g e rest one more' (suc j) d at v ne = let z : suc n + j ≡ n + suc j =
        omega arith in subst (λ i. M g (Cell i) ≡ true) z (more' j d at v ne)

    mutual
      pub seen_full : (e : Expression) (sc : Scope) (guard : Option ℕ) (s : State) → GE sc e →
          Apart f guard s sc (sites_in e)
          → Onto f sc s (seen_in fun (sp guard) e s).state × (Final M (seen_in fun (sp guard) e s).state →
          (by_marks e ≡ true → (seen_in fun (sp guard) e s).varies ≡ true) ×
          Facts sc guard s (seen_in fun (sp guard) e s).state (parts_of e) (conditions_in sc e) (gives_in e))
      seen_full (Apply action es) sc guard s ok apart =
          let o = good_apply (InBody program f) (UnderBody program f) (BackBody program f) sc action es ok in
          let first : Seen = record { varies = varies_itself fun (sp guard) action s; state = s } in
          let after = seen_among fun (sp guard) (is_store action) es first in
          let t = settled (sp guard) action after in
          let a = among_full es sc guard (is_store action) first o.1 (apart_right f guard s sc (action_sites action)
          (sites_among es) apart) in
          let st = settles sc guard action after in (
            onto_then f sc s after.state t.state a.0 st.0,
            λ fin.
                let fa = final_before M f sc after.state t.state st.0 fin in
                let fs = final_before M f sc s after.state a.0 fa in
                let F = a.1 fa in
                let value : by_marks (Apply action es) ≡ true → after.varies ≡ true =
                apply_value action es first.varies after.varies o.0 (itself_found guard action s fs) F.0.0 F.0.1 in
                let S : Facts sc guard after.state t.state [] [] (sets_key action) =
                record {
                  assigns = λ b xs x m. absurd m;
                  passes = λ i g r xs m. absurd m;
                  under = λ c m. absurd m;
                  guarded = λ k h has away. ((st.2 fin).1 k h).0 away;
                  flags = λ k h has. ((st.2 fin).1 k h).1;
                } in (
                  (λ h. st.1 ∙ value h),
                  facts_node sc guard s t.state (Apply action es) (parts_among es) (conditions_among sc es)
                      (gives_in (Apply action es))
                      (λ action' es' x q h v.
                      let same : action ≡ action' = cc q in
                      (st.2 fin).0 x (subst (λ b. sets b x ≡ true) (sym same) h)
                      (value (subst (λ d. by_marks d ≡ true) (sym q) v)))
                      (λ site g roots es' q. absurd (cc q))
                      (facts_less sc guard s t.state (parts_among es ++ []) (parts_among es)
                      (conditions_among sc es ++ []) (conditions_among sc es) (gives_in (Apply action es))
                      (gives_in (Apply action es)) (λ d m. in_left (parts_among es) [] d m)
                      (λ d m. in_left (conditions_among sc es) [] d m) (λ k h. h)
                      (facts_both sc sc guard s after.state t.state (parts_among es) [] (conditions_among sc es) []
                      (gives_among es) (sets_key action) (gives_in (Apply action es)) (λ k h. h) a.0 st.0
                      (λ k h. elim (split_apply action es k h) [ inl q ↦ inr q | inr q ↦ inl q ]) F.1 S)),
                ),
          )
      seen_full (Update site element root op of back old index value) sc guard s ok apart =
          let o = good_update (InBody program f) (UnderBody program f) (BackBody program f) sc site element root op of
          back old index value ok in
          let rest = apart_rest f guard s sc site (sites_in index ++ sites_in value) apart in
          let x = seen_in fun (sp guard) index s in
          let y = seen_in fun (sp guard) value x.state in
          let a = seen_full index sc guard s o.0 (apart_left f guard s sc (sites_in index) (sites_in value) rest) in
          let b = seen_full value sc guard x.state o.1 (apart_on f guard s x.state sc (sites_in value) a.0
          (apart_right f guard s sc (sites_in index) (sites_in value) rest)) in (
            onto_then f sc s x.state y.state a.0 b.0,
            λ fin. (
              (λ h. refl),
              facts_node sc guard s y.state (Update site element root op of back old index value) (parts_of index ++
                  parts_of value) (conditions_in sc index ++ conditions_in sc value)
                  (gives_in (Update site element root op of back old index value))
                  (λ action es z q. absurd (cc q)) (λ i g roots es q. absurd (cc q))
                  (facts_both sc sc guard s x.state y.state (parts_of index) (parts_of value) (conditions_in sc index)
                  (conditions_in sc value) (gives_in index) (gives_in value)
                  (gives_in (Update site element root op of back old index value)) (λ k h. h) a.0 b.0
                  (split_update site element root op of back old index value)
                  (a.1 (final_before M f sc x.state y.state b.0 fin)).1 (b.1 fin).1),
            ),
          )
      seen_full (Choose site t a b) sc guard s ok apart =
          let o = good_choose (InBody program f) (UnderBody program f) (BackBody program f) sc site t a b ok in
          let ab : List ℕ = sites_in a ++ sites_in b in
          let ys : List ℕ = sites_in t ++ ab in
          let c : Condition = choice_condition sc t a b in
          let there : Key → Bool = cond_gives program f c in
          let x = seen_in fun (sp guard) t s in
          let inner : Option ℕ = cond x.varies (Some site) guard in
          let y = seen_in fun (sp inner) a x.state in
          let z = seen_in fun (sp inner) b y.state in
          let rt = seen_full t sc guard s o.1
          (apart_left f guard s sc (sites_in t) ab (apart_rest f guard s sc site ys apart)) in
          let apart1 : Apart f guard x.state sc (site ∷ ys) = apart_on f guard s x.state sc (site ∷ ys) rt.0 apart in
          let apart2 : Apart f inner x.state sc ab =
          apart_right f inner x.state sc (sites_in t) ab (apart_under f guard x.state sc site ys x.varies apart1) in
          let ra = seen_full a sc inner x.state o.2 (apart_left f inner x.state sc (sites_in a) (sites_in b) apart2) in
          let rb = seen_full b sc inner y.state o.3 (apart_on f inner x.state y.state sc (sites_in b) ra.0
          (apart_right f inner x.state sc (sites_in a) (sites_in b) apart2)) in
          let both = onto_then f sc x.state y.state z.state ra.0 rb.0 in (
            onto_then f sc s x.state z.state rt.0 both,
            λ fin.
                let fy = final_before M f sc y.state z.state rb.0 fin in
                let Ft = rt.1 (final_before M f sc x.state z.state both fin) in
                let Fa = ra.1 fy in
                let Fb = rb.1 fin in
                let F2 = facts_both sc sc inner x.state y.state z.state (parts_of a) (parts_of b) (conditions_in sc a)
                (conditions_in sc b) (gives_in a) (gives_in b) there (λ k h. h) ra.0 rb.0 (split_arms sc t a b)
                Fa.1 Fb.1 in
                let F3 = facts_condition sc guard site ys x.varies x.state z.state (parts_of a ++ parts_of b) c
                (conditions_in sc a ++ conditions_in sc b) there apart1 Ft.0 (λ k h. h) (λ k h. h) F2 in
                let F4 = facts_both sc sc guard s x.state z.state (parts_of t) (parts_of a ++ parts_of b)
                (conditions_in sc t) (c ∷ (conditions_in sc a ++ conditions_in sc b)) (gives_in t) there
                (gives_in (Choose site t a b)) (λ k h. h) rt.0 both (split_choice sc site t a b) Ft.1 F3 in (
                  (λ h. elim (either (by_marks t) _ h) [
                    | inl q ↦ or_left x.varies _ (Ft.0 q)
                    | inr h1 ↦ or_right x.varies _ (elim (either (by_marks a) (by_marks b) h1) [
                      | inl q ↦
                          or_left y.varies z.varies (Fa.0 q)
                      | inr q ↦ or_right y.varies z.varies (Fb.0 q)
                    ])
                  ]),
                  facts_node sc guard s z.state (Choose site t a b) (parts_of t ++ (parts_of a ++ parts_of b))
                      (conditions_in sc (Choose site t a b)) (gives_in (Choose site t a b)) (λ action es w q.
                      absurd (cc q)) (λ i g roots es q. absurd (cc q))
                      (facts_less sc guard s z.state (parts_of t ++ (parts_of a ++ parts_of b)) (parts_of t ++
                      (parts_of a ++ parts_of b)) (conditions_in sc t ++
                      (c ∷ (conditions_in sc a ++ conditions_in sc b))) (conditions_in sc (Choose site t a b))
                      (gives_in (Choose site t a b)) (gives_in (Choose site t a b))
                      (λ d m. m) (λ d m. swap c d (conditions_in sc t) (conditions_in sc a ++ conditions_in sc b) m)
                      (λ k h. h) F4),
                ),
          )
      seen_full (Call site g roots es) sc guard s ok apart =
          let o = good_call (InBody program f) (UnderBody program f) (BackBody program f) sc site g roots es ok in
          let after = seen_arguments fun (sp guard) g 0 es s in
          let a = arguments_full es sc guard s g 0 o.1 (apart_rest f guard s sc site (sites_among es) apart) in (
            a.0,
            λ fin.
                let F = a.1 fin in (
                  (λ h. fin.1 g Answer ∙ h),
                  facts_node sc guard s after (Call site g roots es) (parts_among es) (conditions_among sc es)
                      (gives_in (Call site g roots es)) (λ action xs w q. absurd (cc q))
                      (λ site' g' roots' es' q ne n e at v.
                      let same : g ≡ g' = cc q in
                      let list : es ≡ es' = cc q in
                      let z : 0 + n ≡ n = omega arith in
                      subst (λ i. M i (Cell n) ≡ true) same
                      (subst (λ i. M g (Cell i) ≡ true) z (F.0 n e (subst (λ xs. IsNth xs n e) (sym list) at) v
                      (λ w. ne (sym same ∙ w)))))
                      (facts_less sc guard s after (parts_among es) (parts_among es) (conditions_among sc es)
                      (conditions_among sc es) (gives_among es) (gives_in (Call site g roots es)) (λ d m. m)
                      (λ d m. m) (call_gives site g roots es) F.1),
                ),
          )

      pub among_full : (es : Expressions) (sc : Scope) (guard : Option ℕ) (last : Bool) (r : Seen) → GA sc es →
          Apart f guard r.state sc (sites_among es)
          → Onto f sc r.state (seen_among fun (sp guard) last es r).state
          × (Final M (seen_among fun (sp guard) last es r).state
          → ((last ≡ false → (r.varies ≡ true) ⊎ (by_some es ≡ true) →
          (seen_among fun (sp guard) last es r).varies ≡ true) × (last ≡ true → by_final es ≡ true →
          (seen_among fun (sp guard) last es r).varies ≡ true))
          × Facts sc guard r.state (seen_among fun (sp guard) last es r).state (parts_among es)
          (conditions_among sc es) (gives_among es))
      among_full none sc guard last r ok apart = (
        onto_same f sc r.state,
        λ fin. (
          ((λ q h. elim h [ inl v ↦ v | inr v ↦ cc v ]), λ q h. cc h),
          facts_none sc guard r.state r.state (gives_among none) nothing_given,
        ),
      )
      among_full (more e rest) sc guard last r ok apart =
          let o = good_more (InBody program f) (UnderBody program f) (BackBody program f) sc e rest ok in
          let x = seen_in fun (sp guard) e r.state in
          let next : Seen = record { varies = cond last x.varies (r.varies || x.varies); state = x.state } in
          let t = seen_among fun (sp guard) last rest next in
          let a =
          seen_full e sc guard r.state o.0 (apart_left f guard r.state sc (sites_in e) (sites_among rest) apart) in
          let b = among_full rest sc guard last next o.1 (apart_on f guard r.state x.state sc (sites_among rest) a.0
          (apart_right f guard r.state sc (sites_in e) (sites_among rest) apart)) in (
            onto_then f sc r.state x.state t.state a.0 b.0,
            λ fin.
                let Fa = a.1 (final_before M f sc x.state t.state b.0 fin) in
                let Fb = b.1 fin in (
                  (
                    some_value last e rest r.varies x.varies t.varies Fa.0 Fb.0.0,
                    final_value guard last e rest r.varies x.varies x.state Fa.0 Fb.0.1,
                  ),
                  facts_both sc sc guard r.state x.state t.state (parts_of e) (parts_among rest) (conditions_in sc e)
                      (conditions_among sc rest) (gives_in e) (gives_among rest) (gives_among (more e rest))
                      (λ k h. h) a.0 b.0 (split_more e rest) Fa.1 Fb.1,
                ),
          )

      arguments_full : (es : Expressions) (sc : Scope) (guard : Option ℕ) (s : State) (g n : ℕ) → GA sc es →
          Apart f guard s sc (sites_among es)
          → Onto f sc s (seen_arguments fun (sp guard) g n es s)
          × (Final M (seen_arguments fun (sp guard) g n es s)
          → ((j : ℕ) (e : Expression) → IsNth es j e → by_marks e ≡ true → g ≢ program.kernel →
          M g (Cell (n + j)) ≡ true) × Facts sc guard s (seen_arguments fun (sp guard) g n es s)
          (parts_among es) (conditions_among sc es) (gives_among es))
      arguments_full none sc guard s g n ok apart =
          (onto_same f sc s, λ fin. ((λ j e at. absurd at), facts_none sc guard s s (gives_among none) nothing_given))
      arguments_full (more e rest) sc guard s g n ok apart =
          let o = good_more (InBody program f) (UnderBody program f) (BackBody program f) sc e rest ok in
          let x = seen_in fun (sp guard) e s in
          let u = pass (sp guard) g n x.varies x.state in
          let t = seen_arguments fun (sp guard) g (suc n) rest u in
          let a = seen_full e sc guard s o.0 (apart_left f guard s sc (sites_in e) (sites_among rest) apart) in
          let p = pass_full sc guard g n x.varies x.state in
          let one = onto_then f sc s x.state u a.0 p.0 in
          let b = arguments_full rest sc guard u g (suc n) o.1 (apart_on f guard s u sc (sites_among rest) one
          (apart_right f guard s sc (sites_in e) (sites_among rest) apart)) in (
            onto_then f sc s u t one b.0,
            λ fin.
                let fu = final_before M f sc u t b.0 fin in
                let Fa = a.1 (final_before M f sc x.state u p.0 fu) in
                let Fb = b.1 fin in (
                  argument_marks n g e rest (λ v ne. p.1 fu (Fa.0 v) ne) Fb.0,
                  facts_both sc sc guard s u t (parts_of e) (parts_among rest) (conditions_in sc e)
                      (conditions_among sc rest) (gives_in e) (gives_among rest) (gives_among (more e rest))
                      (λ k h. h) one b.0 (split_more e rest)
                      (facts_on sc guard s x.state u (parts_of e) (conditions_in sc e) (gives_in e) p.0 Fa.1) Fb.1,
                ),
          )
