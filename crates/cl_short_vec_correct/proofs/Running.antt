-- The lines of leaves, one after the other: each declares a helping variable that is new, and what the leaves gave is
-- in helping variables behind them.
use Rattle.std.proofs.Common.{◌≡◌, ℕ, ◌≤◌, ◌<◌, ℤ, nat_eq, List, [], ◌∷◌, length, Some}
use Rattle.std.proofs.Common.{Bool, true, false, not, if◌then◌else◌, refl, ap, sym, ◌∙◌, subst, inl, inr, arith}
use Rattle.std.proofs.lemmas.Bool.{false≢true}
use Rattle.std.proofs.lemmas.Bool.Decides.{nat_tests}
use Rattle.std.specs.Prelude.{◌||◌}
use Rattle.std.specs.Str.{bytes_eq}
use Rattle.wg_num.specs.declared.types.IntType.{IntType}
use Rattle.wg_num.specs.Wrap.{IsValue}
use Rattle.cl_model.specs.declared.program.Root.{Root}
use Rattle.cl_model.specs.declared.program.Space.{Space}
use Rattle.cl_model.specs.Tree.{Expression}
use Rattle.cl_model.specs.Lists.{Each}
use Rattle.cl_meaning.specs.declared.kind.Meaning.{Meaning}
use Rattle.cl_meaning.specs.declared.kind.Meaning.TheVariants as meanings
use Rattle.cl_meaning.specs.Environment.{Env, meaning_of, is_declared}
use Rattle.cl_short_vec.specs.Plain.{is_pointed}
use Rattle.cl_short_vec.specs.Marks.{Mark, kind_at}
use Rattle.cl_short_vec.specs.Order.{Step, Offset, Number, Copy, Load, Set, Store, type_in}
use Rattle.cl_short_vec_correct.specs.Doing.{Got, first_at, IsElement}
use Rattle.cl_short_vec_correct.specs.Emits.{Known, knows, IsIn, Fresh}
use Rattle.cl_short_vec_correct.specs.Sources.{is_sourced}
use Rattle.cl_short_vec_correct.proofs.Adds.{Adds}
use Rattle.cl_short_vec_correct.proofs.Alike.{Like}
use Rattle.cl_short_vec_correct.proofs.Slots.{Slot, Whole, Part, Start, slot_name, slot_value, with_slot, new_value}
use Rattle.cl_short_vec_correct.proofs.Slots.{other_value, bytes_are, bytes_same}

-- ---- what is held

-- the helping variable of a slot is visible with that meaning, declared in the innermost scope, and holds its value,
-- which is one of these
pub record Held (env : Env) (known : List Known) (got : Got) (slot : Slot) (m : ℕ → Meaning) (values : ℤ → Type 0) :
    Type 0 where
  pub variable : ℕ
  pub visible : meaning_of env (slot_name slot) ≡ Some (m variable)
  pub declared : is_declared env (slot_name slot) ≡ true
  pub holds : IsIn known variable (slot_value got slot)
  pub fits : values (slot_value got slot)

abbrev pub scalar_meaning : IntType → ℕ → Meaning
scalar_meaning of y = meanings.Scalar of false y

abbrev pub pointer_meaning : Space → IntType → (constant : Bool) → Root → ℕ → Meaning
pointer_meaning space of constant r y = meanings.Pointer space of constant r false y

abbrev pub any_value : ℤ → Type 0
any_value v = Unit {0}

-- a helping variable that holds a value of that type
abbrev pub HeldValue : Env → List Known → Got → Slot → IntType → Type 0
HeldValue env known got slot of = Held env known got slot (scalar_meaning of) (IsValue of)

-- where an element stands, of which `start` was visible at the statement
pub record Pointed (start env : Env) (known : List Known) (got : Got) (m : Mark) : Type 0 where
  pub space : Space
  pub constant : Bool
  pub root : Root
  pub place : Expression
  pub element : IsElement start m root place
  pub held :
      Held env known got (Start (first_at m)) (pointer_meaning space (type_in (kind_at m)) constant root) any_value

-- what a leaf's step leaves
abbrev pub Done : Env → Env → List Known → Got → Step → Type 0
Done start env known got (Offset m) = Pointed start env known got m
Done start env known got (Number of m) = HeldValue env known got (Whole (first_at m)) of
Done start env known got (Copy of x c) = HeldValue env known got (Part x.span.first c) of
Done start env known got (Load m c) = HeldValue env known got (Part (first_at m) c) (type_in (kind_at m))
Done start env known got step = Unit {0}

-- what is visible at a line of leaves, where `start` is visible at the statement
pub record Running (start env : Env) (known : List Known) (got : Got) (done : List Step) : Type 0 where
  pub like : Like env start
  pub inner : 2 ≤ length env.scopes
  pub names : (q : List ℕ) → is_pointed q ≡ false → meaning_of env q ≡ meaning_of start q
  pub more : length start.variables ≤ length env.variables
  pub own : Each (λ (k : Known). (length start.variables ≤ k.variable) × (k.variable < length env.variables)) known
  pub held : Each (Done start env known got) done

-- ---- one more

-- a variable behind all that are known
pub fresh_next : (n x : ℕ) (known : List Known) →
    Each (λ (k : Known). (n ≤ k.variable) × (k.variable < x)) known → Fresh x known
fresh_next n x [] h = tt
fresh_next n x (k ∷ ks) h = (by (nat_eq x k.variable) refl, fresh_next n x ks h.1)
  where
    by : (b : Bool) → nat_eq x k.variable ≡ b → b ≡ false
    by true e = let l = h.0.1 in absurd (grind (arith, nat_tests))
    by false e = refl

own_more : (n x y : ℕ) (known : List Known) → x ≤ y →
    Each (λ (k : Known). (n ≤ k.variable) × (k.variable < x)) known →
    Each (λ (k : Known). (n ≤ k.variable) × (k.variable < y)) known
own_more n x y [] l h = tt
own_more n x y (k ∷ ks) l h = let b = h.0.1 in ((h.0.0, omega arith), own_more n x y ks l h.1)

-- a name that is declared is not one that is not
apart : (env : Env) (p q : List ℕ) → is_declared env p ≡ false → is_declared env q ≡ true → bytes_eq p q ≡ false
apart env p q h k = by (bytes_eq p q) refl
  where
    by : (b : Bool) → bytes_eq p q ≡ b → b ≡ false
    by true e = absurd (false≢true (sym h ∙ (ap (is_declared env) (bytes_are p q e) ∙ k)))
    by false e = refl

-- a name that does not begin with a point is none of a helping variable
unhelping : (p q : List ℕ) → is_pointed p ≡ true → is_pointed q ≡ false → bytes_eq p q ≡ false
unhelping p q h k = by (bytes_eq p q) refl
  where
    by : (b : Bool) → bytes_eq p q ≡ b → b ≡ false
    by true e = absurd (false≢true (sym k ∙ (ap is_pointed (sym (bytes_are p q e)) ∙ h)))
    by false e = refl

slot_pointed : (s : Slot) → is_pointed (slot_name s) ≡ true
slot_pointed (Whole k) = refl
slot_pointed (Part k c) = refl
slot_pointed (Start k) = refl

not_is : (b : Bool) → not b ≡ true → b ≡ false
not_is true h = absurd (false≢true h)
not_is false h = refl

pub sourced_plain : (q : List ℕ) → is_sourced q ≡ true → is_pointed q ≡ false
sourced_plain [] h = refl
sourced_plain (b ∷ q) h = not_is (nat_eq b 46) h

-- names of a source stand for what they stand for at the statement
pub same_name : {start env : Env} {known : List Known} {got : Got} {done : List Step} →
    Running start env known got done → (q : List ℕ) → is_sourced q ≡ true → meaning_of env q ≡ meaning_of start q
same_name r q h = r.names q (sourced_plain q h)

-- a line declares the variable of a slot
module _ (start env to : Env) (known : List Known) (got : Got) (slot : Slot) (m : ℕ → Meaning) (v : ℤ)
    (adds : Adds env to (slot_name slot) (m (length env.variables)))
    (new : is_declared env (slot_name slot) ≡ false) where
  abbrev known' : List Known
  known' = knows (length env.variables) v known

  abbrev got' : Got
  got' = with_slot got slot v

  pub held_new : (values : ℤ → Type 0) → values v → Held to known' got' slot m values
  held_new values f = record {
    variable = length env.variables;
    visible = adds.meanings (slot_name slot) ∙
        ap (λ b. if b then Some (m (length env.variables)) else meaning_of env (slot_name slot))
        (bytes_same (slot_name slot));
    declared = adds.declared (slot_name slot) ∙
        ap (λ b. b || is_declared env (slot_name slot)) (bytes_same (slot_name slot));
    holds = inl (refl, sym (new_value got slot v));
    fits = subst values (sym (new_value got slot v)) f;
  }

  held_still : (t : Slot) (n : ℕ → Meaning) (values : ℤ → Type 0) → Held env known got t n values →
      Held to known' got' t n values
  held_still t n values h = let a = apart env (slot_name slot) (slot_name t) new h.declared in record {
    variable = h.variable;
    visible = adds.meanings (slot_name t) ∙
        (ap (λ b. if b then Some (m (length env.variables)) else meaning_of env (slot_name t)) a ∙ h.visible);
    declared = adds.declared (slot_name t) ∙ (ap (λ b. b || is_declared env (slot_name t)) a ∙ h.declared);
    holds = inr (subst (λ z. IsIn known h.variable z) (sym (other_value got slot t v a)) h.holds);
    fits = subst values (sym (other_value got slot t v a)) h.fits;
  }

  done_still : (s : Step) → Done start env known got s → Done start to known' got' s
  done_still (Offset e) h = record {
    space = h.space;
    constant = h.constant;
    root = h.root;
    place = h.place;
    element = h.element;
    held = held_still (Start (first_at e)) (pointer_meaning h.space (type_in (kind_at e)) h.constant h.root) any_value
        h.held;
  }
  done_still (Number of e) h = held_still (Whole (first_at e)) (scalar_meaning of) (IsValue of) h
  done_still (Copy of x c) h = held_still (Part x.span.first c) (scalar_meaning of) (IsValue of) h
  done_still (Load e c) h =
      held_still (Part (first_at e) c) (scalar_meaning (type_in (kind_at e))) (IsValue (type_in (kind_at e))) h
  done_still (Set x c j) h = tt
  done_still (Store e c j) h = tt

  all_still : (done : List Step) → Each (Done start env known got) done → Each (Done start to known' got') done
  all_still [] h = tt
  all_still (s ∷ ss) h = (done_still s h.0, all_still ss h.1)

  pub runs_on : (s : Step) (done : List Step) → Running start env known got done → Done start to known' got' s →
      Running start to known' got' (s ∷ done)
  runs_on s done r d = record {
    like = record {
      places = adds.places ∙ r.like.places;
      functions = adds.functions ∙ r.like.functions;
      flags = adds.flags ∙ r.like.flags;
    };
    inner = subst (λ n. 2 ≤ n) (sym adds.scopes) r.inner;
    names = λ q h. adds.meanings q ∙
        (ap (λ b. if b then Some (m (length env.variables)) else meaning_of env q)
        (unhelping (slot_name slot) q (slot_pointed slot) h) ∙ r.names q h);
    more = let a = r.more in let b = adds.variables in omega arith;
    own = let b = adds.variables in (
      (r.more, omega arith),
      own_more (length start.variables) (length env.variables) (length to.variables) known (omega arith) r.own,
    );
    held = (d, all_still done r.held);
  }
