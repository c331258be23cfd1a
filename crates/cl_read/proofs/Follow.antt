-- What may stand behind a whole phrase, and what the readers of all phrases of some nesting do.
use Rattle.std.proofs.Common.{◌≡◌, ℕ, suc, ◌<◌, ◌≤◌, true, false, List, ◌∷◌, ◌++◌, refl, ap, ◌∙◌, arith}
use Rattle.std.specs.Prelude.{nat_le, nat_eq}
use Rattle.std.proofs.lemmas.Bool.Decides.{nat_tests}
use Rattle.cl_tree.specs.declared.terminal.Terminal.{Terminal}
use Rattle.cl_tree.specs.declared.terminal.Terminal.TheVariants as terminals
use Rattle.cl_tree.specs.declared.terminal.Leaf.{Leaf}
use Rattle.cl_tree.specs.Precedence.{looseness, joins, assigns, qualifies}
use Rattle.cl_tree.specs.Syntax.{Syntax, node, nesting}
use Rattle.cl_tree.specs.Nodes.{Spot, tok}
use Rattle.cl_tree.specs.Grammar.{closed, TypeName, Star, Declare, Declarator, Initializers, Block, Simple, Statement}
use Rattle.cl_tree.specs.Grammar.{Expr, Assign, Cond, Cast, Unary, Level, Space, one, Spells}
use Rattle.cl_read.specs.Starts.{starts_type, postfixes}
use Rattle.cl_read.specs.Reading.{Out, Got, after, Reader, begins, is, Readers}
use Rattle.cl_read.proofs.Tails.{absent, included}

-- the next token binds more loosely than that
abbrev pub Behind : ℕ → List Leaf → Type 0
Behind k rest = begins (λ j. nat_le (looseness j) k) rest ≡ false

at_most_more : (a k m : ℕ) → k ≤ m → nat_le a k ≡ true → nat_le a m ≡ true
at_most_more a k m d h = grind (arith, nat_tests)

equal_at_most : (a k : ℕ) → nat_eq a k ≡ true → nat_le a k ≡ true
equal_at_most a k h = grind (arith, nat_tests)

next_above : (a k : ℕ) → nat_eq a (suc k) ≡ true → nat_le a k ≡ false
next_above a k h = grind (arith, nat_tests)

pub behind_less : (k m : ℕ) (rest : List Leaf) → k ≤ m → Behind m rest → Behind k rest
behind_less k m rest d b = included (λ j. nat_le (looseness j) m) (λ j. nat_le (looseness j) k)
    (λ j h. at_most_more (looseness j) k m d h) rest b

pub behind_not : (k : ℕ) (j : Terminal) (rest : List Leaf) → nat_le (looseness j) k ≡ true → Behind k rest →
    begins (is j) rest ≡ false
behind_not k j rest h b = absent (λ j. nat_le (looseness j) k) j h rest b

pub behind_joins : (k : ℕ) (rest : List Leaf) → Behind (suc k) rest → begins (joins k) rest ≡ false
behind_joins k rest b =
    included (λ j. nat_le (looseness j) (suc k)) (joins k) (λ j h. equal_at_most (looseness j) (suc k) h) rest b

pub behind_join : (k : ℕ) (j : Terminal) → joins k j ≡ true → (m : Spot) (r : List Leaf) → Behind k (tok j m ∷ r)
behind_join k j q m r = next_above (looseness j) k q

postfix_binds : (j : Terminal) → postfixes j ≡ true → nat_le (looseness j) 0 ≡ true
postfix_binds terminals.OpenBracket e = refl
postfix_binds terminals.Step e = refl
postfix_binds terminals.Point e = refl
postfix_binds _ e = absurd cc

pub behind_postfixes : (rest : List Leaf) → Behind 0 rest → begins postfixes rest ≡ false
behind_postfixes rest b = included (λ j. nat_le (looseness j) 0) postfixes postfix_binds rest b

assign_binds : (j : Terminal) → assigns j ≡ true → nat_le (looseness j) 12 ≡ true
assign_binds terminals.Equals e = refl
assign_binds terminals.Compound e = refl
assign_binds _ e = absurd cc

pub behind_assigns : (rest : List Leaf) → Behind 12 rest → begins assigns rest ≡ false
behind_assigns rest b = included (λ j. nat_le (looseness j) 12) assigns assign_binds rest b

pub behind_assign : (j : Terminal) → assigns j ≡ true → (m : Spot) (r : List Leaf) → Behind 11 (tok j m ∷ r)
behind_assign terminals.Equals e m r = refl
behind_assign terminals.Compound e m r = refl
behind_assign _ e m r = absurd cc

pub nested : (t : Syntax) → 0 < nesting t
nested (node f w a b ps) = omega arith

-- how an else must not stand behind a statement
abbrev pub NoElse : Syntax → List Leaf → Type 0
NoElse t rest = closed t ≡ false → begins (is terminals.Else) rest ≡ false

pub record AllFull (r : Readers) (n : ℕ) : Type 0 where
  pub space : {t : Syntax} {x : List Leaf} → Spells Space (one t) x → nesting t ≤ n → (rest : List Leaf) →
      r.space (x ++ rest) ≡ Got t rest
  pub star : {t : Syntax} {x : List Leaf} → Spells Star (one t) x → nesting t ≤ n → (rest : List Leaf) →
      begins (qualifies true) rest ≡ false → r.star (x ++ rest) ≡ Got t rest
  pub type' : {t : Syntax} {x : List Leaf} → Spells TypeName (one t) x → nesting t ≤ n → (rest : List Leaf) →
      begins starts_type rest ≡ false → r.type' (x ++ rest) ≡ Got t rest
  pub declare : {t : Syntax} {x : List Leaf} → Spells Declare (one t) x → nesting t ≤ n → (rest : List Leaf) →
      r.declare (x ++ rest) ≡ Got t rest
  pub declarator : {t : Syntax} {x : List Leaf} → Spells Declarator (one t) x → nesting t ≤ n → (rest : List Leaf) →
      Behind 12 rest → r.declarator (x ++ rest) ≡ Got t rest
  pub initializers : {t : Syntax} {x : List Leaf} → Spells Initializers (one t) x → nesting t ≤ n →
      (rest : List Leaf) → r.initializers (x ++ rest) ≡ Got t rest
  pub block : {t : Syntax} {x : List Leaf} → Spells Block (one t) x → nesting t ≤ n → (rest : List Leaf) →
      r.block (x ++ rest) ≡ Got t rest
  pub simple : {t : Syntax} {x : List Leaf} → Spells Simple (one t) x → nesting t ≤ n → (rest : List Leaf) →
      r.simple (x ++ rest) ≡ Got t rest
  pub statement : {t : Syntax} {x : List Leaf} → Spells Statement (one t) x → nesting t ≤ n → (rest : List Leaf) →
      NoElse t rest → r.statement (x ++ rest) ≡ Got t rest
  pub expr : {t : Syntax} {x : List Leaf} → Spells Expr (one t) x → nesting t ≤ n → (rest : List Leaf) →
      Behind 13 rest → r.expr (x ++ rest) ≡ Got t rest
  pub assign : {t : Syntax} {x : List Leaf} → Spells Assign (one t) x → nesting t ≤ n → (rest : List Leaf) →
      Behind 12 rest → r.assign (x ++ rest) ≡ Got t rest
  pub cond' : {t : Syntax} {x : List Leaf} → Spells Cond (one t) x → nesting t ≤ n → (rest : List Leaf) →
      Behind 11 rest → r.cond' (x ++ rest) ≡ Got t rest
  pub level : (k : ℕ) {t : Syntax} {x : List Leaf} → Spells (Level k) (one t) x → nesting t ≤ n → (rest : List Leaf) →
      Behind k rest → r.level k (x ++ rest) ≡ Got t rest
  pub cast : {t : Syntax} {x : List Leaf} → Spells Cast (one t) x → nesting t ≤ n → (rest : List Leaf) →
      Behind 0 rest → r.cast (x ++ rest) ≡ Got t rest
  pub unary : {t : Syntax} {x : List Leaf} → Spells Unary (one t) x → nesting t ≤ n → (rest : List Leaf) →
      Behind 0 rest → r.unary (x ++ rest) ≡ Got t rest

-- one reader after the other
pub onto : {A B : Type 0} (g : A → Reader B) {o : Out A} {a : A} {mid : List Leaf} {r : Out B} → o ≡ Got a mid →
    g a mid ≡ r → after o g ≡ r
onto g e f = ap (λ o. after o g) e ∙ f
