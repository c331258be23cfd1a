-- Scopes of the text: what is not in scope is not assigned, what is in scope is not declared again, and where all
-- assignments of a variable stand.
use Rattle.std.proofs.Common.{◌≡◌, ℕ, zero, suc, ◌+◌, ◌≤◌, ℤ, Bool, true, false, ◌||◌, cond, nat_eq, List, ◌++◌}
use Rattle.std.proofs.Common.{Option, Some, None, ◌⊎◌, inl, inr, refl, sym, ap, ◌∙◌, subst, arith}
use Rattle.std.proofs.lemmas.Bool.{eqb-true, eq-eqb}
use Rattle.cl_model.specs.Tree.{Action, Literal, Variable, Unary, Binary, Builtin, Convert, Ask, Second, Truth}
use Rattle.cl_model.specs.Tree.{Decided, Set, Change, Load, Store, Expression, Apply, Update, Choose, Call}
use Rattle.cl_model.specs.Tree.{Expressions, none, more, Statement, Do, Declare, Fill, Block, If, Loop, Switch, Break}
use Rattle.cl_model.specs.Tree.{Continue, Return, Barrier, Statements, empty, also, Arms, no_arm, arm}
use Rattle.cl_model.specs.Lists.{IsOneOf}
use Rattle.cl_model.specs.Valid.{Scope, Has, ActionNames, NamesIn, NamesAmong, NamesInOptional, scope_after}
use Rattle.cl_model.specs.Valid.{IsScopedList, AreScopedArms, declarations, all_declarations, arms_declarations}
use Rattle.cl_model.specs.Varying.{Condition, sets, assigns_in, assigns_among, assigns_in_optional, assigns}
use Rattle.cl_model.specs.Varying.{some_assigns, arms_assign, conditions_in, conditions_among, conditions_in_optional}
use Rattle.diverge_sound.proofs.Keeps.{not_true, Cell, Sound, sound_list, branch_scoped, body_sound, has_after}
use Rattle.diverge_sound.proofs.Nesting.{in_either}
use Rattle.diverge_exact.proofs.Sound.{either}

-- conditions in expressions hold no way out

mutual
  pub no_exit : (sc : Scope) (e : Expression) (c : Condition) → IsOneOf (conditions_in sc e) c → c.exits ≡ false
  no_exit sc (Apply action es) c m = no_exit_among sc es c m
  no_exit sc (Update site element root op of back old i v) c m =
      elim (in_either (conditions_in sc i) (conditions_in sc v) c m) [
        | inl j ↦ no_exit sc i c j
        | inr j ↦
            no_exit sc v c j
      ]
  no_exit sc (Choose site t a b) c (inl q) = sym (ap (λ (x : Condition). x.exits) q)
  no_exit sc (Choose site t a b) c (inr m) =
      elim (in_either (conditions_in sc t) (conditions_in sc a ++ conditions_in sc b) c m) [
        | inl j ↦
            no_exit sc t c j
        | inr j ↦ elim (in_either (conditions_in sc a) (conditions_in sc b) c j) [
          | inl k ↦
              no_exit sc a c k
          | inr k ↦ no_exit sc b c k
        ]
      ]
  no_exit sc (Call site g roots es) c m = no_exit_among sc es c m

  pub no_exit_among : (sc : Scope) (es : Expressions) (c : Condition) → IsOneOf (conditions_among sc es) c →
      c.exits ≡ false
  no_exit_among sc none c m = absurd m
  no_exit_among sc (more e rest) c m = elim (in_either (conditions_in sc e) (conditions_among sc rest) c m) [
    | inl j ↦
        no_exit sc e c j
    | inr j ↦ no_exit_among sc rest c j
  ]

pub no_exit_optional : (sc : Scope) (e : Option Expression) (c : Condition) →
    IsOneOf (conditions_in_optional sc e) c → c.exits ≡ false
no_exit_optional sc None c m = absurd m
no_exit_optional sc (Some e) c m = no_exit sc e c m

-- what is not in scope is not assigned

both_false : (a b : Bool) → a ≡ false → b ≡ false → (a || b) ≡ false
both_false true b h k = cc
both_false false b h k = k

set_outside : (sc : Scope) (x y : ℕ) → Has sc x → (Has sc y → ⊥) → nat_eq x y ≡ false
set_outside sc x y has ne = not_true (nat_eq x y) (λ e. ne (subst (Has sc) (eqb-true x y e) has))

action_outside : (sc : Scope) (action : Action) (y : ℕ) → ActionNames sc action → (Has sc y → ⊥) → sets action y ≡ false
action_outside sc (Set x) y names ne = set_outside sc x y names ne
action_outside sc (Change x op of back old) y names ne = set_outside sc x y names ne
action_outside sc (Literal value of) y names ne = refl
action_outside sc (Variable x) y names ne = refl
action_outside sc (Unary op of) y names ne = refl
action_outside sc (Binary op of) y names ne = refl
action_outside sc (Builtin b of) y names ne = refl
action_outside sc (Convert t) y names ne = refl
action_outside sc (Ask what) y names ne = refl
action_outside sc Second y names ne = refl
action_outside sc Truth y names ne = refl
action_outside sc (Decided answer) y names ne = refl
action_outside sc (Load site element root) y names ne = refl
action_outside sc (Store site element root) y names ne = refl

mutual
  pub outside_in : (sc : Scope) (e : Expression) (y : ℕ) → NamesIn sc e → (Has sc y → ⊥) → assigns_in e y ≡ false
  outside_in sc (Apply action es) y names ne =
      both_false (sets action y) (assigns_among es y) (action_outside sc action y names.0 ne)
      (outside_among sc es y names.1 ne)
  outside_in sc (Update site element root op of back old i v) y names ne =
      both_false (assigns_in i y) (assigns_in v y) (outside_in sc i y names.0 ne) (outside_in sc v y names.1 ne)
  outside_in sc (Choose site t a b) y names ne =
      both_false (assigns_in t y) (assigns_in a y || assigns_in b y) (outside_in sc t y names.0 ne)
      (both_false (assigns_in a y) (assigns_in b y) (outside_in sc a y names.1 ne) (outside_in sc b y names.2 ne))
  outside_in sc (Call site g roots es) y names ne = outside_among sc es y names ne

  pub outside_among : (sc : Scope) (es : Expressions) (y : ℕ) → NamesAmong sc es → (Has sc y → ⊥) →
      assigns_among es y ≡ false
  outside_among sc none y names ne = refl
  outside_among sc (more e rest) y names ne =
      both_false (assigns_in e y) (assigns_among rest y) (outside_in sc e y names.0 ne)
      (outside_among sc rest y names.1 ne)

pub outside_optional : (sc : Scope) (e : Option Expression) (y : ℕ) → NamesInOptional sc e → (Has sc y → ⊥) →
    assigns_in_optional e y ≡ false
outside_optional sc None y names ne = refl
outside_optional sc (Some e) y names ne = outside_in sc e y names ne

-- 1 for yes
abbrev bit : Bool → ℕ
bit b = cond b 1 0

one_or_none : (b : Bool) → bit b ≡ 0 → b ≡ false
one_or_none true h = absurd (omega (arith, h))
one_or_none false h = refl

-- nor behind a statement that does not declare it
pub not_after : (sc : Scope) (s : Statement) (y : ℕ) → (Has sc y → ⊥) → declarations s y ≡ 0 →
    Has (scope_after sc s) y → ⊥
not_after sc (Declare z value) y ne d (inl q) = let e : true ≡ false =
    sym (eq-eqb z y q) ∙ one_or_none (nat_eq z y) d in cc e
not_after sc (Declare z value) y ne d (inr h) = ne h
not_after sc (Do e) y ne d h = ne h
not_after sc (Fill site array values) y ne d h = ne h
not_after sc (Block list) y ne d h = ne h
not_after sc (If site test a b) y ne d h = ne h
not_after sc (Loop site first test step body) y ne d h = ne h
not_after sc (Switch site value arms) y ne d h = ne h
not_after sc (Break site) y ne d h = ne h
not_after sc (Continue site) y ne d h = ne h
not_after sc (Return site value) y ne d h = ne h
not_after sc (Barrier site) y ne d h = ne h

mutual
  pub outside_of : (sc : Scope) (s : Statement) (y : ℕ) → Sound sc s → (Has sc y → ⊥) → declarations s y ≡ 0 →
      assigns s y ≡ false
  outside_of sc (Do e) y ok ne d = outside_in sc e y ok ne
  outside_of sc (Declare z value) y ok ne d = outside_optional sc value y ok.1 ne
  outside_of sc (Fill site array es) y ok ne d = outside_among sc es y ok ne
  outside_of sc (Block list) y ok ne d = outside_list sc list y ok ne d
  outside_of sc (If site t a b) y ok ne d =
      both_false (assigns_in t y) (some_assigns a y || some_assigns b y) (outside_in sc t y ok.0 ne)
      (both_false (some_assigns a y) (some_assigns b y) (outside_list sc a y (branch_scoped sc a ok.1) ne
      (omega (arith, d))) (outside_list sc b y (branch_scoped sc b ok.2) ne (omega (arith, d))))
  outside_of sc (Loop site first t st b) y ok ne d =
      both_false (assigns_in_optional t y) (assigns_in_optional st y || assigns b y) (outside_optional sc t y ok.0 ne)
      (both_false (assigns_in_optional st y) (assigns b y) (outside_optional sc st y ok.1 ne)
      (outside_of sc b y (body_sound sc b ok.2) ne d))
  outside_of sc (Switch site v arms) y ok ne d =
      both_false (assigns_in v y) (arms_assign arms y) (outside_in sc v y ok.0 ne) (outside_arms sc arms y ok.1 ne d)
  outside_of sc (Break site) y ok ne d = refl
  outside_of sc (Continue site) y ok ne d = refl
  outside_of sc (Return site value) y ok ne d = outside_optional sc value y ok ne
  outside_of sc (Barrier site) y ok ne d = refl

  pub outside_list : (sc : Scope) (list : Statements) (y : ℕ) → IsScopedList sc list → (Has sc y → ⊥) →
      all_declarations list y ≡ 0 → some_assigns list y ≡ false
  outside_list sc empty y ok ne d = refl
  outside_list sc (also s rest) y ok ne d =
      let o = sound_list sc s rest ok in
      let first : declarations s y ≡ 0 = omega (arith, d) in
      both_false (assigns s y) (some_assigns rest y) (outside_of sc s y o.0 ne first)
      (outside_list (scope_after sc s) rest y o.1 (not_after sc s y ne first) (omega (arith, d)))

  pub outside_arms : (sc : Scope) (arms : Arms) (y : ℕ) → AreScopedArms sc arms → (Has sc y → ⊥) →
      arms_declarations arms y ≡ 0 → arms_assign arms y ≡ false
  outside_arms sc no_arm y ok ne d = refl
  outside_arms sc (arm labels other body rest) y ok ne d =
      both_false (some_assigns body y) (arms_assign rest y) (outside_list sc body y (branch_scoped sc body ok.0) ne
      (omega (arith, d))) (outside_arms sc rest y ok.1 ne (omega (arith, d)))

-- what is in scope is not declared again

mutual
  pub declared_once : (sc : Scope) (s : Statement) (y : ℕ) → Sound sc s → Has sc y → declarations s y ≡ 0
  declared_once sc (Declare z value) y ok has =
      ap bit (not_true (nat_eq z y) (λ e. ok.0 (subst (Has sc) (sym (eqb-true z y e)) has)))
  declared_once sc (Do e) y ok has = refl
  declared_once sc (Fill site array es) y ok has = refl
  declared_once sc (Block list) y ok has = declared_list sc list y ok has
  declared_once sc (If site t a b) y ok has = let p = declared_list sc a y (branch_scoped sc a ok.1) has in let q =
      declared_list sc b y (branch_scoped sc b ok.2) has in omega (arith, p, q)
  declared_once sc (Loop site first t st b) y ok has = declared_once sc b y (body_sound sc b ok.2) has
  declared_once sc (Switch site v arms) y ok has = declared_arms sc arms y ok.1 has
  declared_once sc (Break site) y ok has = refl
  declared_once sc (Continue site) y ok has = refl
  declared_once sc (Return site value) y ok has = refl
  declared_once sc (Barrier site) y ok has = refl

  pub declared_list : (sc : Scope) (list : Statements) (y : ℕ) → IsScopedList sc list → Has sc y →
      all_declarations list y ≡ 0
  declared_list sc empty y ok has = refl
  declared_list sc (also s rest) y ok has =
      let o = sound_list sc s rest ok in
      let p = declared_once sc s y o.0 has in
      let q = declared_list (scope_after sc s) rest y o.1 (has_after sc s (Cell y) has) in
      omega (arith, p, q)

  pub declared_arms : (sc : Scope) (arms : Arms) (y : ℕ) → AreScopedArms sc arms → Has sc y →
      arms_declarations arms y ≡ 0
  declared_arms sc no_arm y ok has = refl
  declared_arms sc (arm labels other body rest) y ok has = let p =
      declared_list sc body y (branch_scoped sc body ok.0) has in let q = declared_arms sc rest y ok.1 has in
      omega (arith, p, q)

-- each variable has at most one declaration here, and where it has one all assignments to it stand here

pub record Cover (everywhere there : ℕ → Bool) (count : ℕ → ℕ) : Type 0 where
  pub one : (y : ℕ) → count y ≤ 1
  pub all : (y : ℕ) → (count y ≡ 0 → ⊥) → everywhere y ≡ true → there y ≡ true

at_least_one : (n : ℕ) → (n ≡ 0 → ⊥) → 1 ≤ n
at_least_one zero h = absurd (h refl)
at_least_one (suc n) h = omega arith

-- of a part, where what is declared in it is assigned in no other
pub cover_part : (sc : Scope) (everywhere there part others : ℕ → Bool) (count here elsewhere : ℕ → ℕ) →
    ((y : ℕ) → here y + elsewhere y ≤ count y) → ((y : ℕ) → there y ≡ true → (part y ≡ true) ⊎ (others y ≡ true)) →
    ((y : ℕ) → Has sc y → here y ≡ 0)
    → ((y : ℕ) → (here y ≡ 0 → ⊥) → (Has sc y → ⊥) → elsewhere y ≡ 0 → others y ≡ false) →
    Cover everywhere there count → Cover everywhere part here
cover_part sc everywhere there part others count here elsewhere sum split novel outside c = record {
  one = λ y. let s = sum y in let o = c.one y in omega (arith, s, o);
  all = λ y ne b.
      let s = sum y in
      let o = c.one y in
      let p = at_least_one (here y) ne in
      elim (split y (c.all y (λ z. ne (omega (arith, s, z))) b)) [
        | inl h ↦ h
        | inr h ↦ let f = outside y ne (λ has. ne (novel y has)) (omega (arith, s, o, p)) in let q : true ≡ false =
            sym h ∙ f in cc q
      ];
}

-- how often a statement declares a variable in a list of its own
abbrev pub inner_declarations : Statement → ℕ → ℕ
inner_declarations (Declare z value) y = 0
inner_declarations s y = declarations s y

pub inner_less : (s : Statement) (y : ℕ) → inner_declarations s y ≤ declarations s y
inner_less (Declare z value) y = omega arith
inner_less (Do e) y = omega arith
inner_less (Fill site array es) y = omega arith
inner_less (Block list) y = omega arith
inner_less (If site t a b) y = omega arith
inner_less (Loop site first t st b) y = omega arith
inner_less (Switch site v arms) y = omega arith
inner_less (Break site) y = omega arith
inner_less (Continue site) y = omega arith
inner_less (Return site value) y = omega arith
inner_less (Barrier site) y = omega arith

-- what is declared inside a statement is not in scope behind it
pub inner_after : (sc : Scope) (s : Statement) (y : ℕ) → (inner_declarations s y ≡ 0 → ⊥) → (Has sc y → ⊥) →
    Has (scope_after sc s) y → ⊥
inner_after sc (Declare z value) y some ne h = some refl
inner_after sc (Do e) y some ne h = ne h
inner_after sc (Fill site array values) y some ne h = ne h
inner_after sc (Block list) y some ne h = ne h
inner_after sc (If site test a b) y some ne h = ne h
inner_after sc (Loop site first test step body) y some ne h = ne h
inner_after sc (Switch site value arms) y some ne h = ne h
inner_after sc (Break site) y some ne h = ne h
inner_after sc (Continue site) y some ne h = ne h
inner_after sc (Return site value) y some ne h = ne h
inner_after sc (Barrier site) y some ne h = ne h

zero_inner : (s : Statement) (y : ℕ) → declarations s y ≡ 0 → inner_declarations s y ≡ 0
zero_inner s y h = let l = inner_less s y in omega (arith, l, h)

-- the parts of nodes

pub cover_first : (sc : Scope) (everywhere : ℕ → Bool) (s : Statement) (rest : Statements) →
    IsScopedList sc (also s rest) → Cover everywhere (some_assigns (also s rest)) (all_declarations (also s rest)) →
    Cover everywhere (assigns s) (inner_declarations s)
cover_first sc everywhere s rest ok c =
    let o = sound_list sc s rest ok in
    cover_part sc everywhere (some_assigns (also s rest)) (assigns s) (some_assigns rest)
    (all_declarations (also s rest)) (inner_declarations s) (all_declarations rest)
    (λ y. let l = inner_less s y in omega (arith, l)) (λ y h. either (assigns s y) (some_assigns rest y) h)
    (λ y has. zero_inner s y (declared_once sc s y o.0 has)) (λ y some ne d. outside_list (scope_after sc s) rest y
    o.1 (inner_after sc s y some ne) d) c

pub cover_rest : (sc : Scope) (everywhere : ℕ → Bool) (s : Statement) (rest : Statements) →
    IsScopedList sc (also s rest) → Cover everywhere (some_assigns (also s rest)) (all_declarations (also s rest)) →
    Cover everywhere (some_assigns rest) (all_declarations rest)
cover_rest sc everywhere s rest ok c =
    let o = sound_list sc s rest ok in
    cover_part (scope_after sc s) everywhere (some_assigns (also s rest)) (some_assigns rest) (assigns s)
    (all_declarations (also s rest)) (all_declarations rest) (declarations s) (λ y. omega arith)
    (λ y h. elim (either (assigns s y) (some_assigns rest y) h) [ inl q ↦ inr q | inr q ↦ inl q ])
    (λ y has. declared_list (scope_after sc s) rest y o.1 has) (λ y some ne d.
    outside_of sc s y o.0 (λ has. ne (has_after sc s (Cell y) has)) d) c

-- all assignments to a variable that is declared in a list stand behind its declaration
pub cover_declared : (sc : Scope) (everywhere : ℕ → Bool) (z : ℕ) (value : Option Expression) (rest : Statements) →
    IsScopedList sc (also (Declare z value) rest) →
    Cover everywhere (some_assigns (also (Declare z value) rest)) (all_declarations (also (Declare z value) rest)) →
    everywhere z ≡ true → some_assigns rest z ≡ true
cover_declared sc everywhere z value rest ok c b =
    elim (either (assigns_in_optional value z) (some_assigns rest z)
    (c.all z (λ h. let q = ap bit (eq-eqb z z refl) in omega (arith, h, q)) b)) [
      | inr h ↦ h
      | inl h ↦ let f = outside_optional sc value z ok.1 ok.0 in let q : true ≡ false = sym h ∙ f in cc q
    ]

pub cover_chosen : (sc : Scope) (everywhere : ℕ → Bool) (site : ℕ) (t : Expression) (a b : Statements) →
    Sound sc (If site t a b) → Cover everywhere (assigns (If site t a b)) (declarations (If site t a b)) →
    Cover everywhere (some_assigns a) (all_declarations a)
cover_chosen sc everywhere site t a b ok c =
    cover_part sc everywhere (assigns (If site t a b)) (some_assigns a) (λ y. assigns_in t y || some_assigns b y)
    (declarations (If site t a b)) (all_declarations a) (all_declarations b) (λ y. omega arith)
    (λ y h. three (assigns_in t y) (some_assigns a y) (some_assigns b y) h)
    (λ y has. declared_list sc a y (branch_scoped sc a ok.1) has)
    (λ y some ne d. both_false (assigns_in t y) (some_assigns b y) (outside_in sc t y ok.0 ne)
    (outside_list sc b y (branch_scoped sc b ok.2) ne d)) c
  where
    three : (x y z : Bool) → (x || (y || z)) ≡ true → (y ≡ true) ⊎ ((x || z) ≡ true)
    three true y z h = inr refl
    three false true z h = inl refl
    three false false z h = inr h

pub cover_other : (sc : Scope) (everywhere : ℕ → Bool) (site : ℕ) (t : Expression) (a b : Statements) →
    Sound sc (If site t a b) → Cover everywhere (assigns (If site t a b)) (declarations (If site t a b)) →
    Cover everywhere (some_assigns b) (all_declarations b)
cover_other sc everywhere site t a b ok c =
    cover_part sc everywhere (assigns (If site t a b)) (some_assigns b) (λ y. assigns_in t y || some_assigns a y)
    (declarations (If site t a b)) (all_declarations b) (all_declarations a) (λ y. omega arith)
    (λ y h. three (assigns_in t y) (some_assigns a y) (some_assigns b y) h)
    (λ y has. declared_list sc b y (branch_scoped sc b ok.2) has)
    (λ y some ne d. both_false (assigns_in t y) (some_assigns a y) (outside_in sc t y ok.0 ne)
    (outside_list sc a y (branch_scoped sc a ok.1) ne d)) c
  where
    three : (x y z : Bool) → (x || (y || z)) ≡ true → (z ≡ true) ⊎ ((x || y) ≡ true)
    three true y z h = inr refl
    three false true z h = inr refl
    three false false z h = inl h

pub cover_body : (sc : Scope) (everywhere : ℕ → Bool) (site : ℕ) (first : Bool) (t st : Option Expression)
    (b : Statement) → Sound sc (Loop site first t st b) →
    Cover everywhere (assigns (Loop site first t st b)) (declarations (Loop site first t st b)) →
    Cover everywhere (assigns b) (inner_declarations b)
cover_body sc everywhere site first t st b ok c =
    cover_part sc everywhere (assigns (Loop site first t st b)) (assigns b) (λ y. assigns_in_optional t y ||
    assigns_in_optional st y) (declarations (Loop site first t st b)) (inner_declarations b) (λ y. 0)
    (λ y. let l = inner_less b y in omega (arith, l))
    (λ y h. three (assigns_in_optional t y) (assigns_in_optional st y) (assigns b y) h)
    (λ y has. zero_inner b y (declared_once sc b y (body_sound sc b ok.2) has))
    (λ y some ne d. both_false (assigns_in_optional t y) (assigns_in_optional st y) (outside_optional sc t y ok.0 ne)
    (outside_optional sc st y ok.1 ne)) c
  where
    three : (x y z : Bool) → (x || (y || z)) ≡ true → (z ≡ true) ⊎ ((x || y) ≡ true)
    three true y z h = inr refl
    three false true z h = inr refl
    three false false z h = inl h

pub cover_arms : (sc : Scope) (everywhere : ℕ → Bool) (site : ℕ) (v : Expression) (arms : Arms) →
    Sound sc (Switch site v arms) →
    Cover everywhere (assigns (Switch site v arms)) (declarations (Switch site v arms)) →
    Cover everywhere (arms_assign arms) (arms_declarations arms)
cover_arms sc everywhere site v arms ok c =
    cover_part sc everywhere (assigns (Switch site v arms)) (arms_assign arms) (assigns_in v)
    (declarations (Switch site v arms)) (arms_declarations arms) (λ y. 0) (λ y. omega arith)
    (λ y h. elim (either (assigns_in v y) (arms_assign arms y) h) [ inl q ↦ inr q | inr q ↦ inl q ])
    (λ y has. declared_arms sc arms y ok.1 has) (λ y some ne d. outside_in sc v y ok.0 ne) c

pub cover_arm : (sc : Scope) (everywhere : ℕ → Bool) (labels : List ℤ) (other : Bool) (body : Statements)
    (rest : Arms) → AreScopedArms sc (arm labels other body rest) →
    Cover everywhere (arms_assign (arm labels other body rest)) (arms_declarations (arm labels other body rest)) →
    Cover everywhere (some_assigns body) (all_declarations body)
cover_arm sc everywhere labels other body rest ok c =
    cover_part sc everywhere (arms_assign (arm labels other body rest)) (some_assigns body) (arms_assign rest)
    (arms_declarations (arm labels other body rest)) (all_declarations body) (arms_declarations rest)
    (λ y. omega arith)
    (λ y h. either (some_assigns body y) (arms_assign rest y) h)
    (λ y has. declared_list sc body y (branch_scoped sc body ok.0) has) (λ y some ne d.
    outside_arms sc rest y ok.1 ne d) c

pub cover_arms_rest : (sc : Scope) (everywhere : ℕ → Bool) (labels : List ℤ) (other : Bool) (body : Statements)
    (rest : Arms) → AreScopedArms sc (arm labels other body rest) →
    Cover everywhere (arms_assign (arm labels other body rest)) (arms_declarations (arm labels other body rest)) →
    Cover everywhere (arms_assign rest) (arms_declarations rest)
cover_arms_rest sc everywhere labels other body rest ok c =
    cover_part sc everywhere (arms_assign (arm labels other body rest)) (arms_assign rest) (some_assigns body)
    (arms_declarations (arm labels other body rest)) (arms_declarations rest) (all_declarations body)
    (λ y. omega arith)
    (λ y h. elim (either (some_assigns body y) (arms_assign rest y) h) [ inl q ↦ inr q | inr q ↦ inl q ])
    (λ y has. declared_arms sc rest y ok.1 has) (λ y some ne d.
    outside_list sc body y (branch_scoped sc body ok.0) ne d) c
