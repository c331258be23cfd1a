-- Statements under guards: where what is pending differs, nothing is set under the guard that does not vary.
use Rattle.std.proofs.Common.{◌≡◌, ℕ, ◌+◌, ◌<◌, ◌≤◌, length, Option, Some, None, refl, sym, ◌∙◌, subst, arith, ◌⊎◌}
use Rattle.std.proofs.Common.{inl, inr, if◌then◌else◌}
use Rattle.std.proofs.Common.{Bool as Test, true, false}
use Rattle.std.specs.Prelude.{nat_eq}
use Rattle.wg_num.specs.declared.types.IntType.{IntType}
use Rattle.cl_model.specs.Tree.{Statement, Statements, empty, also, Arms, no_arm, arm, Program, Function}
use Rattle.cl_model.specs.Lists.{IsOneOf}
use Rattle.cl_model.specs.Calls.{function_at}
use Rattle.cl_model.specs.Valid.{Scope, Has, scope_after}
use Rattle.cl_model.specs.Varying.{Condition, conditions_of, some_assigns, some_returns, AVariable, AResult}
use Rattle.cl_model.specs.Varying.{AnExpression, Varies, exit_under, return_beside}
use Rattle.kir.specs.declared.line.Atom.TheVariants.{Cell as CellAtom}
use Rattle.kir.specs.Tree.{Lines, NoLine, SetThen, LoadThen, StoreThen, ClearThen, IfThen, LoopThen, BarrierThen}
use Rattle.kir.specs.Tree.{joined_to, Kernel}
use Rattle.kir.specs.Live.{live_in}
use Rattle.kir_lower.specs.Made.{Instance}
use Rattle.kir_lower.specs.Ways.{way_out}
use Rattle.kir_lower.specs.Actions.{is_none, guarded_before}
use Rattle.kir_lower.specs.Code.{Calls, Guarded, is_guarded, before_rest}
use Rattle.kir_uniform.specs.Uniform.{sets_in}
use Rattle.kir_uniform.specs.Does.{Cells, Who}
use Rattle.kir_uniform.proofs.Living.{true_or_false}
use Rattle.kir_uniform.proofs.Alike.{same_number}
use Rattle.diverge_sound.proofs.Values.{UnderBody}
use Rattle.kir_lower_shape.proofs.Quiet.{live_joined}
use Rattle.kir_lower_uniform.specs.Together.{Equal, Together}
use Rattle.kir_lower_uniform.proofs.Places.{together_then}
use Rattle.kir_lower_uniform.proofs.Rules.{branch_kept, together_seq, together_if}
use Rattle.kir_lower_uniform.proofs.UnsetCode.{Clear}
use Rattle.kir_lower_uniform.proofs.Ground.{Even}
use Rattle.kir_lower_uniform.proofs.Setting.{Setting, Known, Bound, ScopeWithin, known_below}
use Rattle.kir_lower_uniform.proofs.Acts.{apart_above}
use Rattle.kir_lower_uniform.proofs.Evaluated.{off_above, off_known}
use Rattle.kir_lower_uniform.proofs.Scopes.{has_after, scope_of}
use Rattle.kir_lower_uniform.proofs.Words.{zero_is}

-- no line
pub none_is : (lines : Lines) → is_none lines ≡ true → lines ≡ NoLine
none_is NoLine e = refl
none_is (SetThen to work rest) e = cc
none_is (LoadThen site to element root index rest) e = cc
none_is (StoreThen site element root index from rest) e = cc
none_is (ClearThen array rest) e = cc
none_is (IfThen site test chosen other rest) e = cc
none_is (LoopThen site first test answer body rest) e = cc
none_is (BarrierThen site rest) e = cc

module _ (program : Program) (kernel : Kernel) (one other : Who) (fn : ℕ) (calls : Calls) (here : Instance)
    (set : Setting program kernel one other fn calls here) where
  abbrev F : Function
  F = function_at program fn

  abbrev Size : ℕ
  Size = length (function_at program fn).variables

  abbrev E : ℕ → Type 0
  E = Even program kernel

  abbrev Go : (ℕ → Test) → Lines → (Cells → Cells → Type 0) → Cells → Cells → Type 0
  Go out lines Q p q = Together (Even program kernel) one other out lines Q p q

  -- the result is equal where it does not vary
  abbrev pub AnswerEqual : Cells → Cells → Type 0
  AnswerEqual p q = (t : IntType) → (function_at program fn).result ≡ Some t → (Varies program (AResult fn) → ⊥) →
      p here.answer ≡ q here.answer

  -- ---- statements in which no way out stands under a test that varies

  abbrev pub Calm : Scope → Statement → Type 0
  Calm scope s =
      (c : Condition) → IsOneOf (conditions_of scope s) c → c.exits ≡ true → Varies program (AnExpression fn c.test) → ⊥

  -- so it is where the statement can be left
  abbrev pub Settled : Scope → Statement → Type 0
  Settled scope s = (site : ℕ) → way_out true true s ≡ Some site → Calm scope s

  abbrev pub AllSettled : Scope → Statements → Type 0
  AllSettled scope empty = Unit {0}
  AllSettled scope (also s rest) = Settled scope s × AllSettled (scope_after scope s) rest

  abbrev pub ArmsSettled : Scope → Arms → Type 0
  ArmsSettled scope no_arm = Unit {0}
  ArmsSettled scope (arm labels other body rest) = AllSettled scope body × ArmsSettled scope rest

  -- it is so where a variable in scope that is assigned, or the result, does not vary
  pub record Covers (C : Type 0) (scope : Scope) : Type 0 where
    pub variables : (x : ℕ) → Has scope x → some_assigns (function_at program fn).body x ≡ true →
        (Varies program (AVariable fn x) → ⊥) → C
    pub result : some_returns (function_at program fn).body ≡ true → (Varies program (AResult fn) → ⊥) → C

  pub covers_given : (C : Type 0) (scope : Scope) → C → Covers C scope
  covers_given C scope c = record { variables = λ x has a nv. c; result = λ r nv. c }

  pub covers_both : (C D : Type 0) (scope : Scope) → Covers C scope → Covers D scope → Covers (C × D) scope
  covers_both C D scope h k = record {
    variables = λ x has a nv. (h.variables x has a nv, k.variables x has a nv);
    result = λ r nv. (h.result r nv, k.result r nv);
  }

  pub covers_before : (C : Type 0) (scope : Scope) (s : Statement) → Covers C (scope_after scope s) → Covers C scope
  covers_before C scope s h = record { variables = λ x has. h.variables x (has_after scope s x has); result = h.result }

  pub covers_same : (C : Type 0) (scope other_scope : Scope) → other_scope ≡ scope → Covers C scope →
      Covers C other_scope
  covers_same C scope other_scope e h = subst (Covers C) (sym e) h

  abbrev Within : Statement → Scope → Type 0
  Within s scope = (c : Condition) → IsOneOf (conditions_of scope s) c → UnderBody program fn c

  pub covers_calm : (scope : Scope) (s : Statement) → Within s scope → Covers (Calm scope s) scope
  covers_calm scope s under = record {
    variables = λ x has a nv c m e v. nv (exit_under c (under c m) v (scope_of x scope s has c m) e a);
    result = λ r nv c m e v. nv (return_beside c (under c m) v e r);
  }

  pub covers_settled : (scope : Scope) (s : Statement) → Within s scope → Covers (Settled scope s) scope
  covers_settled scope s under = let k = covers_calm scope s under in
      record { variables = λ x has a nv site e. k.variables x has a nv; result = λ r nv site e. k.result r nv }

  -- what is known is no cell behind the variables
  pub known_clear : (scope : Scope) (c : ℕ) (a : ℕ → Test) (d : ℕ → ℕ) (r : Test) →
      ScopeWithin program kernel here Size scope → Known program kernel here scope c →
      ((x : ℕ) → Has scope x → c ≡ here.base + x → a x ≡ true → ⊥) → ((x : ℕ) → Has scope x → d x ≡ 0)
      → Clear c here Size (function_at program fn).result a d r
  known_clear scope c a d r within kn off nd = record {
    assigned = off_known program kernel one other fn calls here set scope c a kn off;
    declared = λ x less e. undeclared x less e kn;
    answer = λ e t s. apart_above c here.answer (let k = known_below program kernel here Size scope (here.base + Size)
        c within (omega arith) kn in let w = set.answer_is in omega (arith, k, w));
  }
    where
      undeclared : (x : ℕ) → x < Size → nat_eq c (here.base + x) ≡ true → Known program kernel here scope c → d x ≡ 0
      undeclared x less e (inl k) =
          let s = same_number c (here.base + x) e in
          let q = k.2 in
          let t : k.0 ≡ x = omega (arith, s, q) in
          nd x (subst (Has scope) t k.1)
      undeclared x less e (inr k) = absurd (let s = same_number c (here.base + x) e in omega (arith, s, k))

  pub above_clear : (c : ℕ) (a : ℕ → Test) (d : ℕ → ℕ) (r : Test) → here.base + Size ≤ c →
      (r ≡ true → (t : IntType) → (function_at program fn).result ≡ Some t → nat_eq c here.answer ≡ false) →
      Clear c here Size (function_at program fn).result a d r
  above_clear c a d r le answer = record {
    assigned = off_above c Size here a le;
    declared = λ x less e. absurd (let s = same_number c (here.base + x) e in omega (arith, s, less, le));
    answer = answer;
  }

  -- ---- guards

  module _ (W : Type 0) (exit : ℕ) where
    -- what is pending is equal, where there is a way out
    abbrev pub ExitEqual : Cells → Cells → Type 0
    ExitEqual p q = W → p exit ≡ q exit

    -- lines that are skipped where a way out is pending, before others
    module _ (scope : Scope) (site : ℕ) (inside rest : Lines) (a : ℕ → Test) (r : Test) (C A : Type 0) (out : ℕ →
        Test) (Q : Cells → Cells → Type 0) (w : W)
        (bound : Bound program kernel here scope (λ c. live_in c rest (out c)))
        (within : ScopeWithin program kernel here Size scope) (assigned : (x : ℕ) → a x ≡ true →
        some_assigns (function_at program fn).body x ≡ true) (returned : r ≡ true →
        some_returns (function_at program fn).body ≡ true) (cover : Covers C scope)
        (unset : (c : ℕ) → E c → Known program kernel here scope c →
        ((x : ℕ) → Has scope x → c ≡ here.base + x → a x ≡ true → ⊥) → sets_in c inside ≡ false)
        (unset_answer : (t : IntType) → (function_at program fn).result ≡ Some t → r ≡ false →
        sets_in here.answer inside ≡ false)
        (go_inside : (p q : Cells) → Equal E (λ c. live_in c inside (live_in c rest (out c))) p q → ExitEqual p q →
        AnswerEqual p q → Go (λ c. live_in c rest (out c)) inside (λ m n. (A → ExitEqual m n) ×
        AnswerEqual m n) p q)
        (go_rest : (m n : Cells) → Equal E (λ c. live_in c rest (out c)) m n → (C → A → ExitEqual m n) →
        AnswerEqual m n → Go out rest Q m n) where
      abbrev Behind : Cells → Cells → Type 0
      Behind m n = (C → A → ExitEqual m n) × AnswerEqual m n

      guard : (p q : Cells) → Equal E (λ c. live_in c (IfThen site (CellAtom exit) NoLine inside NoLine)
          (live_in c rest (out c))) p q → (C → ExitEqual p q) → AnswerEqual p q →
          Go (λ c. live_in c rest (out c)) (IfThen site (CellAtom exit) NoLine inside NoLine) Behind p q
      guard p q al pre ans =
          together_if E one other (λ c. live_in c rest (out c)) site (CellAtom exit) NoLine inside Behind p q al
          (λ x y al'. (al', ((λ c a. pre c), ans)))
          (λ x y al'. together_then E one other (λ c. live_in c rest (out c)) inside (λ m n. (A → ExitEqual m n) ×
          AnswerEqual m n) Behind p q (go_inside p q al' (λ w'. zero_is (p exit) x ∙
          sym (zero_is (q exit) y)) ans) (λ m n d e z k. ((λ c. k.0), k.1)))
          (λ df c e o. unset c e (bound c e o) (λ x has ec ax.
          df (pre (cover.variables x has (assigned x ax) (λ v. set.marked x (within x has) (subst E ec e) v))
          w)))
          (λ df m n x y. (
            (λ c a' w'. absurd (df (pre c w))),
            (λ t s nv. elim (true_or_false r) [
              | inl er ↦ absurd (df (pre (cover.result (returned er) nv) w))
              | inr er ↦ branch_kept one (CellAtom exit) NoLine inside p m here.answer x (unset_answer t s er) ∙
                  (ans t s nv ∙ sym (branch_kept other (CellAtom exit) NoLine inside q n here.answer y
                  (unset_answer t s er)))
            ]),
          ))

      pub guarded_together : (p q : Cells) →
          Equal E (λ c. live_in c (guarded_before site exit inside rest) (out c)) p q → (C → ExitEqual p q) →
          AnswerEqual p q → Go out (guarded_before site exit inside rest) Q p q
      guarded_together p q al pre ans = by_test (is_none inside) al
        where
          by_test : (b : Test) → Equal E
              (λ c. live_in c (if b then rest else IfThen site (CellAtom exit) NoLine inside rest) (out c)) p q →
              Go out (if b then rest else IfThen site (CellAtom exit) NoLine inside rest) Q p q
          by_test true al' = go_rest p q al' (λ c a'. pre c) ans
          by_test false al' = together_seq E one other out (IfThen site (CellAtom exit) NoLine inside NoLine) rest
              Behind Q p q al' (λ al2. guard p q al2 pre ans) (λ m n d e al2 k. go_rest m n al2 k.0 k.1)

    -- ---- a statement before others

    module _ (guarded declared : Test) (way : Option ℕ) (scope : Scope) (lines : Lines) (g : Guarded) (a : ℕ →
        Test) (r : Test) (S A : Type 0) (out : ℕ → Test)
        (w : (site : ℕ) → way ≡ Some site → W) (settled : (way ≡ None) ⊎ (declared ≡ true) → S)
        (within : ScopeWithin program kernel here Size scope) (assigned : (x : ℕ) → a x ≡ true →
        some_assigns (function_at program fn).body x ≡ true) (returned : r ≡ true →
        some_returns (function_at program fn).body ≡ true)
        (cover_s : Covers S scope) (cover_a : Covers A scope)
        (bound : Bound program kernel here scope out)
        (bound_both : Bound program kernel here scope (λ c. live_in c (joined_to g.inside g.rest) (out c)))
        (bound_rest : is_guarded declared way guarded ≡ true →
        Bound program kernel here scope (λ c. live_in c g.rest (out c)))
        (bound_guard : (site : ℕ) → way ≡ Some site →
        Bound program kernel here scope (λ c. live_in c (guarded_before site exit g.inside g.rest) (out c)))
        (unset : (c : ℕ) → E c → Known program kernel here scope c →
        ((x : ℕ) → Has scope x → c ≡ here.base + x → a x ≡ true → ⊥) → sets_in c g.inside ≡ false)
        (unset_answer : (t : IntType) → (function_at program fn).result ≡ Some t → r ≡ false →
        sets_in here.answer g.inside ≡ false)
        (go_first : (out' : ℕ → Test) (p q : Cells) → Bound program kernel here scope out' →
        Equal E (λ c. live_in c lines (out' c)) p q → ExitEqual p q → AnswerEqual p q →
        Go out' lines (λ m n. (S → ExitEqual m n) × AnswerEqual m n) p q)
        (go_inside : (p q : Cells) → Equal E (λ c. live_in c g.inside (live_in c g.rest (out c))) p q →
        ExitEqual p q → AnswerEqual p q →
        Go (λ c. live_in c g.rest (out c)) g.inside (λ m n. (A → ExitEqual m n) × AnswerEqual m n) p q)
        (go_rest : (C : Type 0) → (is_guarded declared way guarded ≡ false → C) → Covers C scope → (p q : Cells) →
        Equal E (λ c. live_in c g.rest (out c)) p q → (C → A → ExitEqual p q) → AnswerEqual p q →
        Go out g.rest (λ m n. (C → A → ExitEqual m n) × AnswerEqual m n) p q) where
      abbrev Ends : Cells → Cells → Type 0
      Ends m n = ((S × A) → ExitEqual m n) × AnswerEqual m n

      pub before_inside : (p q : Cells) →
          Equal E (λ c. live_in c (before_rest exit declared way lines g).inside
          (live_in c (before_rest exit declared way lines g).rest (out c))) p q → ExitEqual p q → AnswerEqual p q
          → Go (λ c. live_in c (before_rest exit declared way lines g).rest (out c))
          (before_rest exit declared way lines g).inside Ends p q
      before_inside p q al x0 ans = by declared way (λ e. settled (inr e)) (λ e. settled (inl e)) bound_guard go_rest al
        where
          both_live : (c : ℕ) → live_in c (joined_to g.inside g.rest) (out c) ≡ true →
              live_in c g.inside (live_in c g.rest (out c)) ≡ true
          both_live c e = sym (live_joined c g.inside g.rest (out c)) ∙ e

          by : (d : Test) (u : Option ℕ) → (d ≡ true → S) → (u ≡ None → S) →
              ((site : ℕ) → u ≡ Some site → Bound program kernel here scope
              (λ c. live_in c (guarded_before site exit g.inside g.rest) (out c)))
              → ((C : Type 0) → (is_guarded d u guarded ≡ false → C) → Covers C scope → (p q : Cells) →
              Equal E (λ c. live_in c g.rest (out c)) p q → (C → A → ExitEqual p q) → AnswerEqual p q →
              Go out g.rest (λ m n. (C → A → ExitEqual m n) × AnswerEqual m n) p q)
              → Equal E (λ c. live_in c (before_rest exit d u lines g).inside
              (live_in c (before_rest exit d u lines g).rest (out c))) p q →
              Go (λ c. live_in c (before_rest exit d u lines g).rest (out c))
              (before_rest exit d u lines g).inside Ends p q
          by true u sd sn bg gr al' =
              together_seq E one other out lines (joined_to g.inside g.rest) (λ m n. (S → ExitEqual m n) ×
              AnswerEqual m n) Ends p q al' (λ al1.
              go_first (λ c. live_in c (joined_to g.inside g.rest) (out c)) p q bound_both al1 x0 ans)
              (λ b d x y al1 k. together_seq E one other out g.inside g.rest (λ m n. (A → ExitEqual m n) ×
              AnswerEqual m n) Ends b d al1 (λ al2. go_inside b d al2 (k.0 (sd refl)) k.1)
              (λ b' d' x' y' al2 k'. together_then E one other out g.rest (λ m n. (Unit {0} → A → ExitEqual m n) ×
              AnswerEqual m n) Ends b' d'
              (gr (Unit {0}) (λ e. tt) (covers_given (Unit {0}) scope tt) b' d' al2 (λ c. k'.0) k'.1)
              (λ m n x2 y2 al3 z. ((λ sa. z.0 tt sa.1), z.1))))
          by false None sd sn bg gr al' =
              together_seq E one other (λ c. live_in c g.rest (out c)) lines g.inside (λ m n. (S → ExitEqual m n) ×
              AnswerEqual m n) Ends p q al'
              (λ al1. go_first (λ c. live_in c g.inside (live_in c g.rest (out c))) p q
              (λ c e l. bound_both c e (live_joined c g.inside g.rest (out c) ∙ l)) al1 x0 ans)
              (λ b d x y al1 k. together_then E one other (λ c. live_in c g.rest (out c)) g.inside (λ m n. (A →
              ExitEqual m n) × AnswerEqual m n) Ends b d (go_inside b d al1 (k.0 (sn refl)) k.1)
              (λ m n x2 y2 al3 z. ((λ sa. z.0 sa.1), z.1)))
          by false (Some site) sd sn bg gr al' =
              together_then E one other (λ c. live_in c (guarded_before site exit g.inside g.rest) (out c)) lines
              (λ m n. (S → ExitEqual m n) × AnswerEqual m n) Ends p q
              (go_first (λ c. live_in c (guarded_before site exit g.inside g.rest) (out c)) p q (bg site refl) al' x0
              ans) (λ m n x2 y2 al3 z. ((λ sa. z.0 sa.0), z.1))

      pub before_behind : (C : Type 0) → (guarded ≡ false → C) → (declared ≡ false → Covers C scope) → (p q : Cells) →
          Equal E (λ c. live_in c (before_rest exit declared way lines g).rest (out c)) p q →
          (C → (S × A) → ExitEqual p q) → AnswerEqual p q
          → Go out (before_rest exit declared way lines g).rest (λ m n. (C → (S × A) → ExitEqual m n) ×
          AnswerEqual m n) p q
      before_behind C free cover p q al pre ans = by declared way (λ e. settled (inl e)) w bound_rest go_rest cover al
        where
          by : (d : Test) (u : Option ℕ) → (u ≡ None → S) → ((site : ℕ) → u ≡ Some site → W) →
              (is_guarded d u guarded ≡ true → Bound program kernel here scope (λ c. live_in c g.rest (out c)))
              → ((C : Type 0) → (is_guarded d u guarded ≡ false → C) → Covers C scope → (p q : Cells) →
              Equal E (λ c. live_in c g.rest (out c)) p q → (C → A → ExitEqual p q) → AnswerEqual p q →
              Go out g.rest (λ m n. (C → A → ExitEqual m n) × AnswerEqual m n) p q)
              → (d ≡ false → Covers C scope) →
              Equal E (λ c. live_in c (before_rest exit d u lines g).rest (out c)) p q →
              Go out (before_rest exit d u lines g).rest (λ m n. (C → (S × A) → ExitEqual m n) ×
              AnswerEqual m n) p q
          by true u sn ww br gr cv al' = (al', (pre, ans))
          by false None sn ww br gr cv al' =
              together_then E one other out g.rest (λ m n. (C → A → ExitEqual m n) × AnswerEqual m n) (λ m n. (C →
              (S × A) → ExitEqual m n) × AnswerEqual m n) p q
              (gr C free (cv refl) p q al' (λ c a'. pre c (sn refl, a')) ans)
              (λ m n x2 y2 al3 z. ((λ c sa. z.0 c sa.1), z.1))
          by false (Some site) sn ww br gr cv al' =
              guarded_together scope site g.inside g.rest a r (C × (S × A)) A out (λ m n. (C → (S × A) →
              ExitEqual m n) × AnswerEqual m n) (ww site refl) (br refl) within assigned returned
              (covers_both C (S × A) scope (cv refl) (covers_both S A scope cover_s cover_a)) unset unset_answer
              go_inside
              (λ m n al1 k z. together_then E one other out g.rest (λ m n. ((C × S) → A → ExitEqual m n) ×
              AnswerEqual m n) (λ m n. (C → (S × A) → ExitEqual m n) × AnswerEqual m n) m n
              (gr (C × S) (λ e. absurd (cc e)) (covers_both C S scope (cv refl) cover_s) m n al1 (λ cs a'. k (
                cs.0,
                (cs.1, a'),
              ) a') z) (λ m' n' x2 y2 al3 z'. ((λ c sa. z'.0 (c, sa.0) sa.1), z'.1)))
              p q al' (λ csa. pre csa.0 csa.1) ans
