-- What the analysis marks varies: a round over code of a function keeps that marks stay within what varies.
use Rattle.std.proofs.Common.{◌≡◌, ◌≢◌, ℕ, suc, ◌+◌, ◌<◌, length, Bool, true, false, ◌||◌, not, cond, nat_eq, List}
use Rattle.std.proofs.Common.{[], ◌∷◌, Option, Some, None, slice_get, unwrap_or, ◌⊎◌, inl, inr, refl, sym, ap, ◌∙◌}
use Rattle.std.proofs.Common.{subst, arith}
use Rattle.std.proofs.lemmas.Bool.{eq-eqb}
use Rattle.std.proofs.lemmas.Option.{none-some, same_Some, slice_get_within}
use Rattle.wg_num.specs.declared.types.IntType.{IntType}
use Rattle.cl_model.specs.declared.program.Root.{Root}
use Rattle.cl_model.specs.Tree.{Action, Literal, Variable, Unary, Binary, Builtin, Convert, Ask, Second, Truth}
use Rattle.cl_model.specs.Tree.{Decided, Set, Change, Load, Store, Expression, Apply, Update, Choose, Call}
use Rattle.cl_model.specs.Tree.{Expressions, none, more, Statement, Do, Declare, Fill, Block, If, Loop, Switch, Break}
use Rattle.cl_model.specs.Tree.{Continue, Return, Barrier, Statements, Arms, Function, Program}
use Rattle.cl_model.specs.Lists.{IsOneOf}
use Rattle.cl_model.specs.Calls.{function_at, no_function}
use Rattle.cl_model.specs.Valid.{Scope, Has, ActionNames, HaveTypes, ActionFits, scope_after, IsValid}
use Rattle.cl_model.specs.Varying.{Condition, exits, assigns_in, IsAmong, IsNth, is_store, expressions_of_list}
use Rattle.cl_model.specs.Varying.{own_id, loaded, named, operand, stored, updated, tested, chosen, otherwise, called}
use Rattle.cl_model.specs.Varying.{passed, return_under, return_beside, assigned, assigned_under, exit_under}
use Rattle.diverge.specs.declared.known.Entry.{Entry}
use Rattle.diverge.specs.declared.known.Spot.{Spot}
use Rattle.diverge.specs.declared.known.Ways.{Ways}
use Rattle.diverge.specs.Known as known
use Rattle.diverge.specs.Known.{State, absent, variable_at, with_variable, same_guard, assign}
use Rattle.diverge.specs.Known.{pass, behind}
use Rattle.diverge.specs.Rounds.{Seen, varies_itself, settled, seen_in, seen_among, seen_arguments, seen_optional}
use Rattle.diverge.specs.Rounds.{gone_over}
use Rattle.diverge_sound.proofs.Keeps.{neither, Key, Answer, Cell, HasKey, sets_key, gives_in, gives_among}
use Rattle.diverge_sound.proofs.Keeps.{gives_optional, some_give, quiet_apply, quiet_more, quiet_choose, quiet_update}
use Rattle.diverge_sound.proofs.Keeps.{quiet_call}
use Rattle.diverge_sound.proofs.Parts.{Good, GoodAll, GoodOptional, GoodRun, GoodList, GoodArms, good_apply, good_more}
use Rattle.diverge_sound.proofs.Parts.{good_update, good_choose, good_call, choice_condition}
use Rattle.diverge_sound.proofs.Values.{InBody, UnderBody, BackBody, V, VKey, cond_gives}
use Rattle.diverge_sound.proofs.Endings.{Part}
use Rattle.diverge_sound.proofs.Nesting.{typed_of_all, typed_body}
use Rattle.diverge_exact.proofs.Slots.{slot, entry, with_key, entry_is, changed, changed_slot}

pub either : (a b : Bool) → (a || b) ≡ true → (a ≡ true) ⊎ (b ≡ true)
either true b h = inl refl
either false b h = inr h

pub same_guard_self : (g : Option ℕ) → same_guard g g ≡ true
same_guard_self None = refl
same_guard_self (Some n) = eq-eqb n n refl

pub not_false : (b : Bool) → not b ≡ true → b ≡ false
not_false true h = cc
not_false false h = refl

pub turned : (b c : Bool) → (c ≡ false → b ≡ false) → b ≡ true → c ≡ true
turned b true h e = refl
turned b false h e = let z = h refl in cc

pub entry_some : (s : State) (f : ℕ) (k : Key) (old : Entry) → slot s f k ≡ Some old → entry s f k ≡ old
entry_some s f k old h = entry_is s f k ∙ ap (λ o. unwrap_or o absent) h

-- each entry that varies is of what varies, and each that is assigned is assigned in its function
abbrev pub Marks : Program → State → Type 0
Marks program s = (g : ℕ) (k : Key) (e : Entry) → slot s g k ≡ Some e → (e.varies ≡ true → VKey program g k) ×
    (e.assigned ≡ true → some_give (function_at program g).body k ≡ true)

-- the program has it
abbrev pub Exists : Program → ℕ → Key → Type 0
Exists program g Answer = g < length program.functions
Exists program g (Cell x) = (g < length program.functions) × (x < length (function_at program g).variables)

-- each variable and result of the program has its entry
abbrev pub There : Program → State → Type 0
There program s = (g : ℕ) (k : Key) → Exists program g k → (e : Entry) × (slot s g k ≡ Some e)

abbrev pub IsSound : Program → State → Type 0
IsSound program s = Marks program s × There program s

pub there_change : (program : Program) (f : ℕ) (k : Key) (e : Entry) (s : State) → There program s →
    There program (with_key f k e s)
there_change program f k e s there g j x =
    let (old, at) = there g j x in
    elim (changed f k e s g j) [ inl q ↦ (old, q ∙ at) | inr (o, gf, jk, was, is) ↦ (e, is) ]

marks_change : (program : Program) (f : ℕ) (k : Key) (e : Entry) (s : State) → Marks program s →
    ((old : Entry) → slot s f k ≡ Some old → (e.varies ≡ true → VKey program f k) ×
    (e.assigned ≡ true → some_give (function_at program f).body k ≡ true)) → Marks program (with_key f k e s)
marks_change program f k e s sound now g j e1 h =
    elim (changed f k e s g j) [
      | inl q ↦ sound g j e1 (sym q ∙ h)
      | inr (old, gf, jk, was, is) ↦
          let same : e ≡ e1 = same_Some e e1 (sym is ∙ h) in
          let at : slot s f k ≡ Some old =
          subst (λ i. slot s i k ≡ Some old) gf (subst (λ i. slot s g i ≡ Some old) jk was) in
          subst (λ x. (x.varies ≡ true → VKey program g j) ×
          (x.assigned ≡ true → some_give (function_at program g).body j ≡ true)) same
          (subst (λ i. (e.varies ≡ true → VKey program i j) ×
          (e.assigned ≡ true → some_give (function_at program i).body j ≡ true)) (sym gf)
          (subst (λ i. (e.varies ≡ true → VKey program f i) ×
          (e.assigned ≡ true → some_give (function_at program f).body i ≡ true)) (sym jk) (now old at)))
    ]

pub sound_change : (program : Program) (f : ℕ) (k : Key) (e : Entry) (s : State) → IsSound program s →
    ((old : Entry) → slot s f k ≡ Some old → (e.varies ≡ true → VKey program f k) ×
    (e.assigned ≡ true → some_give (function_at program f).body k ≡ true)) → IsSound program (with_key f k e s)
sound_change program f k e s sound now =
    (marks_change program f k e s sound.0 now, there_change program f k e s sound.1)

-- under which condition a variable was declared is kept, in other functions and of what is in scope
abbrev pub SinceKept : ℕ → Scope → State → State → Type 0
SinceKept f sc s t = (g : ℕ) (k : Key) → (g ≡ f → HasKey sc k) → (e : Entry) → slot t g k ≡ Some e →
    (old : Entry) × (slot s g k ≡ Some old) × (e.since ≡ old.since)

pub since_same : (f : ℕ) (sc : Scope) (s : State) → SinceKept f sc s s
since_same f sc s g k has e h = (e, h, refl)

pub since_then : (f : ℕ) (sc : Scope) (s t u : State) → SinceKept f sc s t → SinceKept f sc t u → SinceKept f sc s u
since_then f sc s t u one two g k has e h = let (a, ha, ea) = two g k has e h in let (b, hb, eb) =
    one g k has a ha in (b, hb, ea ∙ eb)

pub since_change : (f : ℕ) (sc : Scope) (g : ℕ) (k : Key) (e : Entry) (s : State) →
    ((old : Entry) → slot s g k ≡ Some old → e.since ≡ old.since) → SinceKept f sc s (with_key g k e s)
since_change f sc g k e s same i j has e1 h =
    elim (changed g k e s i j) [
      | inl q ↦ (e1, sym q ∙ h, refl)
      | inr (old, gf, jk, was, is) ↦
          let one : e ≡ e1 = same_Some e e1 (sym is ∙ h) in
          let at : slot s g k ≡ Some old =
          subst (λ x. slot s x k ≡ Some old) gf (subst (λ x. slot s i x ≡ Some old) jk was) in
          (old, was, ap (λ (x : Entry). x.since) (sym one) ∙ same old at)
    ]

-- of a variable that is not in scope
pub since_declared : (f : ℕ) (sc : Scope) (y : ℕ) (e : Entry) (s : State) → (Has sc y → ⊥) →
    SinceKept f sc s (with_variable f y e s)
since_declared f sc y e s ne i j has e1 h =
    elim (changed f (Cell y) e s i j) [
      | inl q ↦ (e1, sym q ∙ h, refl)
      | inr (old, gf, jk, was, is) ↦ absurd (ne (subst (HasKey sc) jk (has gf)))
    ]

module _ (program : Program) (valid : IsValid program) (f : ℕ) where
  abbrev pub fn : Function
  fn = function_at program f

  abbrev pub spot : Option ℕ → Spot
  spot guard = record { kernel = program.kernel; function = f; guard = guard }

  abbrev GE : Scope → Expression → Type 0
  GE = Good (InBody program f) (UnderBody program f) (BackBody program f)

  abbrev GA : Scope → Expressions → Type 0
  GA = GoodAll (InBody program f) (UnderBody program f) (BackBody program f)

  abbrev GO : Scope → Option Expression → Type 0
  GO = GoodOptional (InBody program f) (UnderBody program f) (BackBody program f)

  abbrev GR : Scope → Statement → Type 0
  GR = GoodRun (InBody program f) (UnderBody program f) (BackBody program f)

  abbrev GL : Scope → Statements → Type 0
  GL = GoodList (InBody program f) (UnderBody program f) (BackBody program f)

  abbrev GM : Scope → Arms → Type 0
  GM = GoodArms (InBody program f) (UnderBody program f) (BackBody program f)

  -- what is in scope was declared under this condition, or a condition that varies stands between, under which stands
  -- what is given values here
  abbrev pub Guarded : State → Scope → Option ℕ → (Key → Bool) → Type 0
  Guarded s sc guard there =
      (k : Key) → HasKey sc k → (e : Entry) → slot s f k ≡ Some e → (e.since ≡ guard) ⊎
      ((c : Condition) × UnderBody program f c × V program f c.test × HasKey c.scope k ×
      (cond_gives program f c k ≡ false → there k ≡ false))

  pub guarded_part : (s : State) (sc : Scope) (guard : Option ℕ) (there part : Key → Bool) →
      ((k : Key) → there k ≡ false → part k ≡ false) → Guarded s sc guard there → Guarded s sc guard part
  guarded_part s sc guard there part less g k has e h =
      elim (g k has e h) [ inl q ↦ inl q | inr (c, u, v, i, q) ↦ inr (c, u, v, i, λ z. less k (q z)) ]

  pub guarded_on : (s t : State) (sc : Scope) (guard : Option ℕ) (there : Key → Bool) → SinceKept f sc s t →
      Guarded s sc guard there → Guarded t sc guard there
  guarded_on s t sc guard there kept g k has e h =
      let (old, at, same) = kept f k (λ q. has) e h in
      elim (g k has old at) [ inl q ↦ inl (same ∙ q) | inr x ↦ inr x ]

  -- under a condition
  pub under_guarded : (s : State) (sc : Scope) (guard : Option ℕ) (there part : Key →
      Bool) (site : ℕ) (varies : Bool) (c : Condition) → UnderBody program f c →
      ((k : Key) → HasKey sc k → HasKey c.scope k) → (varies ≡ true → V program f c.test)
      → ((k : Key) → cond_gives program f c k ≡ false → part k ≡ false) →
      ((k : Key) → there k ≡ false → part k ≡ false) → Guarded s sc guard there →
      Guarded s sc (cond varies (Some site) guard) part
  under_guarded s sc guard there part site true c u inside v quiet less g k has e h =
      inr (c, u, v refl, inside k has, quiet k)
  under_guarded s sc guard there part site false c u inside v quiet less g k has e h =
      guarded_part s sc guard there part less g k has e h

  -- an assignment: the entry behind it
  pub assigned_sound : (sc : Scope) (guard : Option ℕ) (k : Key) (varies : Bool) (s : State) (there : Key → Bool) →
      IsSound program s → Guarded s sc guard there → HasKey sc k → there k ≡ true → Part program f there →
      (varies ≡ true → VKey program f k)
      → ((c : Condition) → UnderBody program f c → V program f c.test → HasKey c.scope k →
      cond_gives program f c k ≡ true → VKey program f k) → (now : Entry) →
      now ≡ known.assigned guard varies (entry s f k)
      → (old : Entry) → slot s f k ≡ Some old → (now.varies ≡ true → VKey program f k) ×
      (now.assigned ≡ true → some_give fn.body k ≡ true)
  assigned_sound sc guard k varies s there sound g has on part value rule now is old at =
      let e : now ≡ known.assigned guard varies old =
      is ∙ ap (known.assigned guard varies) (entry_some s f k old at) in (
        λ v.
            elim (either old.varies (varies || not (same_guard old.since guard))
            (sym (ap (λ (x : Entry). x.varies) e) ∙ v)) [
              | inl y ↦ (sound.0 f k old at).0 y
              | inr y ↦ elim (either varies (not (same_guard old.since guard)) y) [
                | inl z ↦ value z
                | inr z ↦ elim (g k has old at) [
                  | inl q ↦ absurd (let w : false ≡ true = sym (not_false _ z) ∙ ap (λ o. same_guard o guard) q ∙
                      same_guard_self guard in cc)
                  | inr (c, u, vc, i, q) ↦ rule c u vc i (turned (there k) (cond_gives program f c k) q on)
                ]
              ]
            ],
        λ _. turned (there k) (some_give fn.body k) (part k) on,
      )

  pub under_rule : (k : Key) (c : Condition) → UnderBody program f c → V program f c.test → HasKey c.scope k →
      cond_gives program f c k ≡ true → VKey program f k
  under_rule Answer c u v has on = return_under c u v on
  under_rule (Cell x) c u v has on = assigned_under c u v has on

  -- what a step over an expression keeps
  abbrev pub Kept : Scope → State → State → Type 0
  Kept sc s t = IsSound program t × SinceKept f sc s t

  -- a variable that an action sets
  set_sound : (sc : Scope) (guard : Option ℕ) (x : ℕ) (action : Action) (es : Expressions) (r : Seen) →
      InBody program f (Apply action es) → sets_key action (Cell x) ≡ true → Has sc x → IsSound program r.state →
      Guarded r.state sc guard (sets_key action) → Part program f (sets_key action)
      → (r.varies ≡ true → V program f (Apply action es)) → Kept sc r.state (assign (spot guard) x r.varies r.state)
  set_sound sc guard x action es r inside on has sound g part v =
      let now : Entry = known.assigned guard r.varies (variable_at r.state f x) in (
        sound_change program f (Cell x) now r.state sound
            (assigned_sound sc guard (Cell x) r.varies r.state (sets_key action) sound g has on part
            (λ y. assigned inside on (v y)) (under_rule (Cell x)) now refl),
        since_change f sc f (Cell x) now r.state
            (λ old at. ap (λ (o : Entry). o.since) (entry_some r.state f (Cell x) old at)),
      )

  settle_sound : (sc : Scope) (guard : Option ℕ) (action : Action) (es : Expressions) (r : Seen) →
      InBody program f (Apply action es) → ActionNames sc action → IsSound program r.state →
      Guarded r.state sc guard (sets_key action) → Part program f (sets_key action)
      → (r.varies ≡ true → V program f (Apply action es)) → Kept sc r.state (settled (spot guard) action r).state ×
      ((settled (spot guard) action r).varies ≡ true → V program f (Apply action es))
  settle_sound sc guard (Set x) es r inside names sound g part v =
      (set_sound sc guard x (Set x) es r inside (eq-eqb x x refl) names sound g part v, v)
  settle_sound sc guard (Change x op of back old) es r inside names sound g part v =
      (set_sound sc guard x (Change x op of back old) es r inside (eq-eqb x x refl) names sound g part v, v)
  settle_sound sc guard (Literal value of) es r inside names sound g part v = ((sound, since_same f sc r.state), v)
  settle_sound sc guard (Variable y) es r inside names sound g part v = ((sound, since_same f sc r.state), v)
  settle_sound sc guard (Unary op of) es r inside names sound g part v = ((sound, since_same f sc r.state), v)
  settle_sound sc guard (Binary op of) es r inside names sound g part v = ((sound, since_same f sc r.state), v)
  settle_sound sc guard (Builtin b of) es r inside names sound g part v = ((sound, since_same f sc r.state), v)
  settle_sound sc guard (Convert t) es r inside names sound g part v = ((sound, since_same f sc r.state), v)
  settle_sound sc guard (Ask what) es r inside names sound g part v = ((sound, since_same f sc r.state), v)
  settle_sound sc guard Second es r inside names sound g part v = ((sound, since_same f sc r.state), v)
  settle_sound sc guard Truth es r inside names sound g part v = ((sound, since_same f sc r.state), v)
  settle_sound sc guard (Decided answer) es r inside names sound g part v = ((sound, since_same f sc r.state), v)
  settle_sound sc guard (Load site element root) es r inside names sound g part v =
      ((sound, since_same f sc r.state), v)
  settle_sound sc guard (Store site element root) es r inside names sound g part v =
      ((sound, since_same f sc r.state), v)

  -- what varies whatever the operands do; a variable in scope is there
  itself_sound : (guard : Option ℕ) (action : Action) (es : Expressions) (s : State) → IsSound program s →
      ((x : ℕ) → action ≡ Variable x → (old : Entry) × (slot s f (Cell x) ≡ Some old)) →
      varies_itself fn (spot guard) action s ≡ true → V program f (Apply action es)
  itself_sound guard (Ask what) es s sound there h = own_id h
  itself_sound guard (Load site element root) es s sound there h = loaded (not_false _ h)
  itself_sound guard (Variable x) es s sound there h =
      let (old, at) = there x refl in
      named ((sound.0 f (Cell x) old at).0 (sym (ap (λ (e : Entry). e.varies) (entry_some s f (Cell x) old at)) ∙
      h))
  itself_sound guard (Literal value of) es s sound there h = cc h
  itself_sound guard (Unary op of) es s sound there h = cc h
  itself_sound guard (Binary op of) es s sound there h = cc h
  itself_sound guard (Builtin b of) es s sound there h = cc h
  itself_sound guard (Convert t) es s sound there h = cc h
  itself_sound guard Second es s sound there h = cc h
  itself_sound guard Truth es s sound there h = cc h
  itself_sound guard (Decided answer) es s sound there h = cc h
  itself_sound guard (Set x) es s sound there h = cc h
  itself_sound guard (Change x op of back old) es s sound there h = cc h
  itself_sound guard (Store site element root) es s sound there h = cc h

  -- a store has two operands, and its value is that of the second
  two_of : (es : Expressions) (ts : List IntType) (a b : IntType) → HaveTypes program fn es ts → ts ≡ a ∷ b ∷ [] →
      (d : Expression) × (e : Expression) × (es ≡ more d (more e none))
  two_of none [] a b h q = cc q
  two_of none (t ∷ ts) a b h q = absurd h
  two_of (more d none) [] a b h q = absurd h
  two_of (more d none) (t ∷ []) a b h q = cc q
  two_of (more d none) (t ∷ u ∷ ts) a b h q = absurd h.1
  two_of (more d (more e none)) ts a b h q = (d, e, refl)
  two_of (more d (more e (more c rest))) [] a b h q = absurd h
  two_of (more d (more e (more c rest))) (t ∷ []) a b h q = absurd h.1
  two_of (more d (more e (more c rest))) (t ∷ u ∷ []) a b h q = absurd h.1.1
  two_of (more d (more e (more c rest))) (t ∷ u ∷ v ∷ ts) a b h q = cc q

  store_types : (site : ℕ) (element : IntType) (root : Root) (ts : List IntType) (t : IntType) →
      ActionFits program fn (Store site element root) ts t → (a : IntType) × (b : IntType) × (ts ≡ a ∷ b ∷ [])
  store_types site element root [] t h = absurd h
  store_types site element root (a ∷ []) t h = absurd h
  store_types site element root (a ∷ b ∷ []) t h = (a, b, refl)
  store_types site element root (a ∷ b ∷ c ∷ ts) t h = absurd h

  pub store_two : (site : ℕ) (element : IntType) (root : Root) (es : Expressions) →
      InBody program f (Apply (Store site element root) es) → (d : Expression) × (e : Expression) ×
      (es ≡ more d (more e none))
  store_two site element root es inside =
      elim (typed_of_all program fn fn.body (typed_body program valid f) (Apply (Store site element root) es)
      (λ y d q. cc q) inside) [
        | inr p ↦ absurd p
        | inl (t, (ts, have, fit)) ↦ let (a, b, q) = store_types site element root ts t fit in two_of es ts a b have q
      ]

  -- what is named and what is called is there
  in_program : (e : Expression) → InBody program f e → f < length program.functions
  in_program e inside = by_function (slice_get program.functions f) refl
    where
      by_function : (o : Option Function) → slice_get program.functions f ≡ o → f < length program.functions
      by_function (Some own) q = slice_get_within program.functions f own q
      by_function None q =
          absurd (subst (λ (o : Option Function). IsOneOf (expressions_of_list (unwrap_or o no_function).body) e) q
          inside)

  pub names_there : (s : State) → There program s → (x : ℕ) (es : Expressions) →
      InBody program f (Apply (Variable x) es) → (old : Entry) × (slot s f (Cell x) ≡ Some old)
  names_there s there x es inside =
      elim (typed_of_all program fn fn.body (typed_body program valid f) (Apply (Variable x) es) (λ y d q. cc q)
      inside) [
        | inr p ↦ absurd p
        | inl (t, (ts, have, fit)) ↦ there f (Cell x) (in_program _ inside, within ts t fit)
      ]
    where
      within : (ts : List IntType) (t : IntType) → ActionFits program fn (Variable x) ts t → x < length fn.variables
      within [] t h = slice_get_within fn.variables x h.0 h.1
      within (a ∷ ts) t h = absurd h

  pub callee_there : (s : State) → There program s → (site g : ℕ) (roots : List (Option Root)) (es : Expressions) →
      InBody program f (Call site g roots es) → (old : Entry) × (slot s g Answer ≡ Some old)
  callee_there s there site g roots es inside =
      elim (typed_of_all program fn fn.body (typed_body program valid f) (Call site g roots es) (λ y d q. cc q)
      inside) [
        | inl h ↦ there g Answer h.1.0.within
        | inr h ↦ there g Answer h.0.within
      ]

  -- expressions

  -- the operands that count for the value of an action: the last for a store
  abbrev Final : Expressions → Expression → Type 0
  Final none e = ⊥
  Final (more d none) e = d ≡ e
  Final (more d (more c rest)) e = Final (more c rest) e

  abbrev Counts : Bool → Expressions → Expression → Type 0
  Counts false es e = IsAmong es e
  Counts true es e = Final es e

  among_later : (last : Bool) (d : Expression) (rest : Expressions) (e : Expression) → Counts last rest e →
      Counts last (more d rest) e
  among_later false d rest e h = inr h
  among_later true d none e h = absurd h
  among_later true d (more c rest) e h = h

  -- behind an operand: what is found to vary so far does so, if no operand replaces it
  operand_varies : (X : Type 0) (last : Bool) (d : Expression) (rest : Expressions) (before now : Bool) →
      ((last ≡ false) ⊎ (more d rest ≡ none) → before ≡ true → X) → (now ≡ true → V program f d) →
      ((e : Expression) → Counts last (more d rest) e → V program f e → X)
      → (last ≡ false) ⊎ (rest ≡ none) → cond last now (before || now) ≡ true → X
  operand_varies X false d rest before now old new rule stays h =
      elim (either before now h) [ inl y ↦ old (inl refl) y | inr y ↦ rule d (inl refl) (new y) ]
  operand_varies X true d none before now old new rule stays h = rule d refl (new h)
  operand_varies X true d (more c rest) before now old new rule (inl q) h = cc q
  operand_varies X true d (more c rest) before now old new rule (inr q) h = cc q

  counts_rule : (action : Action) (es : Expressions) → InBody program f (Apply action es) → (e : Expression) →
      Counts (is_store action) es e → V program f e → V program f (Apply action es)
  counts_rule (Store site element root) es inside e c v =
      let (d, d', q) = store_two site element root es inside in
      let same : d' ≡ e = subst (λ xs. Final xs e) q c in
      subst (λ xs. V program f (Apply (Store site element root) xs)) (sym q) (stored same v)
  counts_rule (Literal value of) es inside e c v = operand refl c v
  counts_rule (Variable y) es inside e c v = operand refl c v
  counts_rule (Unary op of) es inside e c v = operand refl c v
  counts_rule (Binary op of) es inside e c v = operand refl c v
  counts_rule (Builtin b of) es inside e c v = operand refl c v
  counts_rule (Convert t) es inside e c v = operand refl c v
  counts_rule (Ask what) es inside e c v = operand refl c v
  counts_rule Second es inside e c v = operand refl c v
  counts_rule Truth es inside e c v = operand refl c v
  counts_rule (Decided answer) es inside e c v = operand refl c v
  counts_rule (Set x) es inside e c v = operand refl c v
  counts_rule (Change x op of back old) es inside e c v = operand refl c v
  counts_rule (Load site element root) es inside e c v = operand refl c v

  choice_quiet : (sc : Scope) (t a b : Expression) (k : Key) → cond_gives program f (choice_condition sc t a b) k ≡
      false → (gives_in a k ≡ false) × (gives_in b k ≡ false)
  choice_quiet sc t a b Answer h = (refl, refl)
  choice_quiet sc t a b (Cell x) h = neither (assigns_in a x) (assigns_in b x) h

  -- an argument
  pass_sound : (sc : Scope) (guard : Option ℕ) (g n : ℕ) (varies : Bool) (s : State) → IsSound program s →
      (varies ≡ true → g ≢ program.kernel → VKey program g (Cell n)) → Kept sc s (pass (spot guard) g n varies s)
  pass_sound sc guard g n varies s sound value = by_kernel (nat_eq g program.kernel) refl
    where
      now : Entry
      now = known.passed varies (variable_at s g n)

      new_one : nat_eq g program.kernel ≡ false → (old : Entry) → slot s g (Cell n) ≡ Some old →
          (now.varies ≡ true → VKey program g (Cell n)) ×
          (now.assigned ≡ true → some_give (function_at program g).body (Cell n) ≡ true)
      new_one q old at =
          let e = entry_some s g (Cell n) old at in (
            λ v. elim (either old.varies varies (sym (ap (λ (x : Entry). x.varies || varies) e) ∙ v)) [
              | inl y ↦ (sound.0 g (Cell n) old at).0 y
              | inr y ↦ value y (λ z. let t : true ≡ false = sym (eq-eqb g program.kernel z) ∙ q in cc)
            ],
            λ v. (sound.0 g (Cell n) old at).1 (sym (ap (λ (x : Entry). x.assigned) e) ∙ v),
          )

      by_kernel : (b : Bool) → nat_eq g program.kernel ≡ b → Kept sc s (cond b s (with_variable g n now s))
      by_kernel true q = (sound, since_same f sc s)
      by_kernel false q = (
        sound_change program g (Cell n) now s sound (new_one q),
        since_change f sc g (Cell n) now s (λ old at. ap (λ (o : Entry). o.since) (entry_some s g (Cell n) old at)),
      )

  pub kept_then : (sc : Scope) (s t u : State) → Kept sc s t → Kept sc t u → Kept sc s u
  kept_then sc s t u one two = (two.0, since_then f sc s t u one.1 two.1)

  mutual
    pub seen_sound : (e : Expression) (sc : Scope) (guard : Option ℕ) (s : State) → GE sc e →
        Part program f (gives_in e) → IsSound program s → Guarded s sc guard (gives_in e)
        → Kept sc s (seen_in fn (spot guard) e s).state × ((seen_in fn (spot guard) e s).varies ≡ true → V program f e)
    seen_sound (Apply action es) sc guard s ok part sound g =
        let o = good_apply (InBody program f) (UnderBody program f) (BackBody program f) sc action es ok in
        let first : Seen = record { varies = varies_itself fn (spot guard) action s; state = s } in
        let there : (x : ℕ) → action ≡ Variable x → (old : Entry) × (slot s f (Cell x) ≡ Some old) =
        λ x q. names_there s sound.1 x es (subst (λ a. InBody program f (Apply a es)) q o.0) in
        let r = among_sound es sc guard (is_store action) first (Apply action es) o.1
        (λ k un. (quiet_apply action es k (part k un)).1) sound
        (guarded_part s sc guard (gives_in (Apply action es)) (gives_among es)
        (λ k un. (quiet_apply action es k un).1) g)
        (λ _ h. itself_sound guard action es s sound there h) (counts_rule action es o.0) in
        let after = seen_among fn (spot guard) (is_store action) es first in
        let z = settle_sound sc guard action es after o.0 o.2 r.0.0
        (guarded_on s after.state sc guard (sets_key action) r.0.1
        (guarded_part s sc guard (gives_in (Apply action es)) (sets_key action)
        (λ k un. (quiet_apply action es k un).0) g)) (λ k un. (quiet_apply action es k (part k un)).0) r.1 in
        (kept_then sc s after.state (settled (spot guard) action after).state r.0 z.0, z.1)
    seen_sound (Update site element root op of back old index value) sc guard s ok part sound g =
        let o = good_update (InBody program f) (UnderBody program f) (BackBody program f) sc site element root op of
        back old index value ok in
        let quiet : (k : Key) → gives_in (Update site element root op of back old index value) k ≡ false →
        (gives_in index k ≡ false) × (gives_in value k ≡ false) =
        quiet_update site element root op of back old index value in
        let a = seen_sound index sc guard s o.0 (λ k un. (quiet k (part k un)).0) sound
        (guarded_part s sc guard _ (gives_in index) (λ k un. (quiet k un).0) g) in
        let mid = (seen_in fn (spot guard) index s).state in
        let b = seen_sound value sc guard mid o.1 (λ k un. (quiet k (part k un)).1) a.0.0
        (guarded_on s mid sc guard (gives_in value) a.0.1
        (guarded_part s sc guard _ (gives_in value) (λ k un. (quiet k un).1) g)) in
        (kept_then sc s mid (seen_in fn (spot guard) value mid).state a.0 b.0, λ _. updated)
    seen_sound (Choose site t a b) sc guard s ok part sound g =
        let o = good_choose (InBody program f) (UnderBody program f) (BackBody program f) sc site t a b ok in
        let quiet : (k : Key) → gives_in (Choose site t a b) k ≡ false → (gives_in t k ≡ false) ×
        (gives_in a k ≡ false) × (gives_in b k ≡ false) = quiet_choose site t a b in
        let c : Condition = choice_condition sc t a b in
        let x = seen_in fn (spot guard) t s in
        let rt = seen_sound t sc guard s o.1 (λ k un. (quiet k (part k un)).0) sound
        (guarded_part s sc guard _ (gives_in t) (λ k un. (quiet k un).0) g) in
        let g1 : Guarded x.state sc guard (gives_in (Choose site t a b)) = guarded_on s x.state sc guard _ rt.0.1 g in
        let inner : Option ℕ = cond x.varies (Some site) guard in
        let y = seen_in fn (spot inner) a x.state in
        let ra = seen_sound a sc inner x.state o.2 (λ k un. (quiet k (part k un)).1) rt.0.0
        (under_guarded x.state sc guard (gives_in (Choose site t a b)) (gives_in a) site x.varies c o.0 (λ k h. h)
        rt.1 (λ k un. (choice_quiet sc t a b k un).0) (λ k un. (quiet k un).1) g1) in
        let rb = seen_sound b sc inner y.state o.3 (λ k un. (quiet k (part k un)).2) ra.0.0
        (guarded_on x.state y.state sc inner (gives_in b) ra.0.1
        (under_guarded x.state sc guard (gives_in (Choose site t a b)) (gives_in b) site x.varies c o.0
        (λ k h. h) rt.1 (λ k un. (choice_quiet sc t a b k un).1) (λ k un. (quiet k un).2) g1)) in (
          kept_then sc s x.state (seen_in fn (spot inner) b y.state).state rt.0
              (kept_then sc x.state y.state (seen_in fn (spot inner) b y.state).state ra.0 rb.0),
          λ h. elim (either x.varies _ h) [
            | inl v ↦ tested (rt.1 v)
            | inr h1 ↦ elim (either y.varies _ h1) [ inl v ↦ chosen (ra.1 v) | inr v ↦ otherwise (rb.1 v) ]
          ],
        )
    seen_sound (Call site h roots es) sc guard s ok part sound g =
        let o = good_call (InBody program f) (UnderBody program f) (BackBody program f) sc site h roots es ok in
        let r = arguments_sound es sc guard s h 0 o.1 (λ k un. quiet_call site h roots es k (part k un)) sound
        (guarded_part s sc guard _ (gives_among es) (λ k un. quiet_call site h roots es k un) g)
        (λ j e at v ne. let z : j ≡ 0 + j = omega arith in
        subst (λ i. VKey program h (Cell i)) z (passed site roots es ne o.0 at v)) in
        let after = seen_arguments fn (spot guard) h 0 es s in (
          r,
          λ v. let (old, at) = callee_there after r.0.1 site h roots es o.0 in
              called ((r.0.0 h Answer old at).0
              (sym (ap (λ (e : Entry). e.varies) (entry_some after h Answer old at)) ∙ v)),
        )

    pub among_sound : (es : Expressions) (sc : Scope) (guard : Option ℕ) (last : Bool) (r : Seen)
        (whole : Expression) → GA sc es → Part program f (gives_among es) → IsSound program r.state →
        Guarded r.state sc guard (gives_among es)
        → ((last ≡ false) ⊎ (es ≡ none) → r.varies ≡ true → V program f whole) →
        ((e : Expression) → Counts last es e → V program f e → V program f whole)
        → Kept sc r.state (seen_among fn (spot guard) last es r).state ×
        ((seen_among fn (spot guard) last es r).varies ≡ true → V program f whole)
    among_sound none sc guard last r whole ok part sound g old rule = ((sound, since_same f sc r.state), old (inr refl))
    among_sound (more e rest) sc guard last r whole ok part sound g old rule =
        let o = good_more (InBody program f) (UnderBody program f) (BackBody program f) sc e rest ok in
        let a = seen_sound e sc guard r.state o.0 (λ k un. (quiet_more e rest k (part k un)).0) sound
        (guarded_part r.state sc guard _ (gives_in e) (λ k un. (quiet_more e rest k un).0) g) in
        let x = seen_in fn (spot guard) e r.state in
        let next : Seen = record { varies = cond last x.varies (r.varies || x.varies); state = x.state } in
        let b = among_sound rest sc guard last next whole o.1 (λ k un. (quiet_more e rest k (part k un)).1) a.0.0
        (guarded_on r.state x.state sc guard (gives_among rest) a.0.1
        (guarded_part r.state sc guard _ (gives_among rest) (λ k un. (quiet_more e rest k un).1) g))
        (operand_varies (V program f whole) last e rest r.varies x.varies old a.1 rule)
        (λ d c v. rule d (among_later last e rest d c) v) in
        (kept_then sc r.state x.state (seen_among fn (spot guard) last rest next).state a.0 b.0, b.1)

    arguments_sound : (es : Expressions) (sc : Scope) (guard : Option ℕ) (s : State) (h n : ℕ) → GA sc es →
        Part program f (gives_among es) → IsSound program s → Guarded s sc guard (gives_among es)
        → ((j : ℕ) (e : Expression) → IsNth es j e → V program f e → h ≢ program.kernel →
        VKey program h (Cell (n + j))) → Kept sc s (seen_arguments fn (spot guard) h n es s)
    arguments_sound none sc guard s h n ok part sound g rule = (sound, since_same f sc s)
    arguments_sound (more e rest) sc guard s h n ok part sound g rule =
        let o = good_more (InBody program f) (UnderBody program f) (BackBody program f) sc e rest ok in
        let a = seen_sound e sc guard s o.0 (λ k un. (quiet_more e rest k (part k un)).0) sound
        (guarded_part s sc guard _ (gives_in e) (λ k un. (quiet_more e rest k un).0) g) in
        let x = seen_in fn (spot guard) e s in
        let zero_more : n + 0 ≡ n = omega arith in
        let p = pass_sound sc guard h n x.varies x.state a.0.0 (λ v ne. subst (λ i. VKey program h (Cell i)) zero_more
        (rule 0 e refl (a.1 v) ne)) in
        let t = pass (spot guard) h n x.varies x.state in
        let b = arguments_sound rest sc guard t h (suc n) o.1 (λ k un. (quiet_more e rest k (part k un)).1) p.0
        (guarded_on s t sc guard (gives_among rest) (since_then f sc s x.state t a.0.1 p.1)
        (guarded_part s sc guard _ (gives_among rest) (λ k un. (quiet_more e rest k un).1) g))
        (λ j d at v ne. let q : n + suc j ≡ suc n + j = omega arith in
        subst (λ i. VKey program h (Cell i)) q (rule (suc j) d at v ne)) in
        kept_then sc s t (seen_arguments fn (spot guard) h (suc n) rest t) (kept_then sc s x.state t a.0 p) b

  pub optional_sound : (e : Option Expression) (sc : Scope) (guard : Option ℕ) (s : State) → GO sc e →
      Part program f (gives_optional e) → IsSound program s → Guarded s sc guard (gives_optional e)
      → Kept sc s (seen_optional fn (spot guard) e s).state × ((x : Expression) → e ≡ Some x →
      (seen_optional fn (spot guard) e s).varies ≡ true → V program f x) ×
      (e ≡ None → (seen_optional fn (spot guard) e s).varies ≡ false)
  optional_sound None sc guard s ok part sound g = ((sound, since_same f sc s), (λ x q. cc q), λ _. refl)
  optional_sound (Some e) sc guard s ok part sound g =
      let r = seen_sound e sc guard s ok (λ k un. quiet_some e k (part k un)) sound
      (guarded_part s sc guard _ (gives_in e) (quiet_some e) g) in
      (r.0, (λ x q v. subst (λ y. V program f y) (same_Some e x q) (r.1 v)), λ q. cc q)
    where
      quiet_some : (e : Expression) (k : Key) → gives_optional (Some e) k ≡ false → gives_in e k ≡ false
      quiet_some e Answer h = refl
      quiet_some e (Cell x) h = h

  -- statements

  -- a way out under a condition that varies, in the scope of all that is in scope here
  abbrev pub Escape : Scope → Type 0
  Escape sc = (c : Condition) × UnderBody program f c × V program f c.test × (c.exits ≡ true) ×
      ((k : Key) → HasKey sc k → HasKey c.scope k)

  beside_rule : (k : Key) (c : Condition) → UnderBody program f c → V program f c.test → HasKey c.scope k →
      c.exits ≡ true → some_give fn.body k ≡ true → VKey program f k
  beside_rule Answer c u v has out on = return_beside c u v out on
  beside_rule (Cell x) c u v has out on = exit_under c u v has out on

  -- behind a scope that holds one
  pub leave_sound : (sc : Scope) (k : Key) (s : State) → IsSound program s → Escape sc → HasKey sc k → (now : Entry) →
      now ≡ known.left (entry s f k) → Kept sc s (with_key f k now s)
  leave_sound sc k s sound (c, u, v, out, inside) has now is = (
    sound_change program f k now s sound
        (λ old at.
        let e : now ≡ known.left old = is ∙ ap known.left (entry_some s f k old at) in (
          λ y. elim (either old.varies old.assigned (sym (ap (λ (x : Entry). x.varies) e) ∙ y)) [
            | inl z ↦ (sound.0 f k old at).0 z
            | inr z ↦ beside_rule k c u v (inside k has) out ((sound.0 f k old at).1 z)
          ],
          λ y. (sound.0 f k old at).1 (sym (ap (λ (x : Entry). x.assigned) e) ∙ y),
        )),
    since_change f sc f k now s (λ old at. ap (λ (x : Entry). x.since) is ∙
        ap (λ (x : Entry). x.since) (entry_some s f k old at)),
  )

  abbrev pub Gone' : Scope → Statement → Option ℕ → State → Type 0
  Gone' sc x guard s =
      let r = gone_over fn (spot guard) x s in
      Kept sc s r.state × (r.ways.exits ≡ true → exits x ≡ true) × (r.ways.escapes ≡ true → Escape sc)

  -- a condition that varies, or what stands in its parts
  pub behind_escapes : (sc : Scope) (c : Condition) (varies : Bool) (ways : Ways) → UnderBody program f c →
      ((k : Key) → HasKey sc k → HasKey c.scope k) → (varies ≡ true → V program f c.test) →
      (ways.exits ≡ true → c.exits ≡ true) → (ways.escapes ≡ true → Escape sc)
      → (behind varies ways).escapes ≡ true → Escape sc
  behind_escapes sc c true ways u inside v out inner h = (c, u, v refl, out h, inside)
  behind_escapes sc c false ways u inside v out inner h = inner h

  -- what is in scope behind a statement was declared under this condition
  pub behind_guarded : (x : Statement) (sc : Scope) (guard : Option ℕ) (s : State) (there : Key → Bool) →
      SinceKept f sc s (gone_over fn (spot guard) x s).state → Guarded s sc guard there →
      Guarded (gone_over fn (spot guard) x s).state (scope_after sc x) guard there
  behind_guarded (Declare y value) sc guard s there kept g k has e h = by_key k has h
    where
      v : Seen
      v = seen_optional fn (spot guard) value s

      now : Entry
      now = known.declared guard v.varies (variable_at v.state f y)

      t : State
      t = (gone_over fn (spot guard) (Declare y value) s).state

      there_now : (o : Option Entry) → slot v.state f (Cell y) ≡ o → slot t f (Cell y) ≡ Some e → e.since ≡ guard
      there_now (Some old) q h =
          ap (λ (o : Entry). o.since) (sym (same_Some now e (sym (changed_slot f (Cell y) now v.state old q) ∙ h)))
      there_now None q h =
          elim (changed f (Cell y) now v.state f (Cell y)) [
            | inl z ↦ absurd (none-some e (sym q ∙ sym z ∙ h))
            | inr (old, gf, jk, was, is) ↦ absurd (none-some old (sym q ∙ was))
          ]

      by_key : (k : Key) → HasKey (y ∷ sc) k → slot t f k ≡ Some e → (e.since ≡ guard) ⊎
          ((c : Condition) × UnderBody program f c × V program f c.test × HasKey c.scope k ×
          (cond_gives program f c k ≡ false → there k ≡ false))
      by_key Answer has h = guarded_on s t sc guard there kept g Answer has e h
      by_key (Cell z) (inr i) h = guarded_on s t sc guard there kept g (Cell z) i e h
      by_key (Cell z) (inl q) h =
          inl (there_now (slot v.state f (Cell y)) refl (subst (λ w. slot t f (Cell w) ≡ Some e) (sym q) h))
  behind_guarded (Do d) sc guard s there kept g k has e h =
      guarded_on s (gone_over fn (spot guard) (Do d) s).state sc guard there kept g k has e h
  behind_guarded (Fill site array values) sc guard s there kept g k has e h =
      guarded_on s (gone_over fn (spot guard) (Fill site array values) s).state sc guard there kept g k has e h
  behind_guarded (Block list) sc guard s there kept g k has e h =
      guarded_on s (gone_over fn (spot guard) (Block list) s).state sc guard there kept g k has e h
  behind_guarded (If site test a b) sc guard s there kept g k has e h =
      guarded_on s (gone_over fn (spot guard) (If site test a b) s).state sc guard there kept g k has e h
  behind_guarded (Loop site first test step body) sc guard s there kept g k has e h =
      guarded_on s (gone_over fn (spot guard) (Loop site first test step body) s).state sc guard there kept g k has e h
  behind_guarded (Switch site value arms) sc guard s there kept g k has e h =
      guarded_on s (gone_over fn (spot guard) (Switch site value arms) s).state sc guard there kept g k has e h
  behind_guarded (Break site) sc guard s there kept g k has e h =
      guarded_on s (gone_over fn (spot guard) (Break site) s).state sc guard there kept g k has e h
  behind_guarded (Continue site) sc guard s there kept g k has e h =
      guarded_on s (gone_over fn (spot guard) (Continue site) s).state sc guard there kept g k has e h
  behind_guarded (Return site value) sc guard s there kept g k has e h =
      guarded_on s (gone_over fn (spot guard) (Return site value) s).state sc guard there kept g k has e h
  behind_guarded (Barrier site) sc guard s there kept g k has e h =
      guarded_on s (gone_over fn (spot guard) (Barrier site) s).state sc guard there kept g k has e h
