-- What a phrase begins with.
use Rattle.std.proofs.Common.{◌≡◌, ◌<◌, Bool, true, false, List, [], ◌∷◌, ◌++◌, length, refl, append_assoc, arith}
use Rattle.cl_tree.specs.declared.terminal.Terminal.{Terminal}
use Rattle.cl_tree.specs.declared.terminal.Terminal.TheVariants as terminals
use Rattle.cl_tree.specs.declared.terminal.Leaf.{Leaf}
use Rattle.cl_tree.specs.Precedence.{prefixes, qualifies}
use Rattle.cl_tree.specs.Syntax.{Syntax, Forest, none}
use Rattle.cl_tree.specs.Nodes.{Spot, tok}
use Rattle.cl_tree.specs.Grammar as grammar
use Rattle.cl_tree.specs.Grammar.{Sort, Item, Head, Result, Param, TypeName, Base, Core}
use Rattle.cl_tree.specs.Grammar.{Star, Declare, Declarator, Block, Line}
use Rattle.cl_tree.specs.Grammar.{Simple, Statement, Expr, Assign, Cond, Cast, Unary, Postfix, Primary, Level}
use Rattle.cl_tree.specs.Grammar.{Qualifier, Many, Just, Comma, Space, one, list, Spells}
use Rattle.cl_read.specs.Starts.{starts_expression, starts_simple, starts_statement, starts_type, starts_core}
use Rattle.cl_read.specs.Starts.{starts_declarator, starts_head}
use Rattle.cl_read.specs.Reading.{begins}

pub led : (test : Terminal → Bool) (x z r : List Leaf) → begins test (x ++ (z ++ r)) ≡ true →
    begins test ((x ++ z) ++ r) ≡ true
led test x z r h = rw append_assoc h

pub long : (test : Terminal → Bool) (x : List Leaf) → begins test (x ++ []) ≡ true → 0 < length x
long test [] h = absurd cc
long test (i ∷ x) h = omega arith

-- a weaker test
pub wider : (a b : Terminal → Bool) → ((j : Terminal) → a j ≡ true → b j ≡ true) → (ts : List Leaf) →
    begins a ts ≡ true → begins b ts ≡ true
wider a b h [] e = absurd cc
wider a b h (i ∷ ts) e = h i.terminal e

-- members of a list, and what stands behind it
pub many_first : (test : Terminal → Bool) {s : Sort} → ((a : List Spot) (ts : Forest) (x : List Leaf) →
    Spells s (list a ts) x → (r : List Leaf) → begins test (x ++ r) ≡ true) →
    {a : List Spot} {ts : Forest} {x : List Leaf} → Spells (Many s) (list a ts) x → (r : List Leaf) →
    begins test r ≡ true → begins test (x ++ r) ≡ true
many_first test f grammar.many_end r b = b
many_first test f (grammar.many_more {a = a} {ts = ts} {x = x} h {y = y} i) r b = led test x y r (f a ts x h (y ++ r))

-- ---- types

core_first : {a : List Spot} {x : List Leaf} → Spells Core (list a none) x → (r : List Leaf) →
    begins starts_core (x ++ r) ≡ true
core_first (grammar.core_char m) r = refl
core_first (grammar.core_int m) r = refl
core_first (grammar.core_length m) r = refl
core_first (grammar.core_length_int m i) r = refl

pub core_starts : {a : List Spot} {x : List Leaf} → Spells Core (list a none) x → (r : List Leaf) →
    begins starts_core (x ++ r) ≡ true
core_starts h r = core_first h r

core_is_type : (j : Terminal) → starts_core j ≡ true → starts_type j ≡ true
core_is_type terminals.Char e = refl
core_is_type terminals.Int e = refl
core_is_type terminals.Length e = refl
core_is_type _ e = absurd cc

pub base_first : {a : List Spot} {x : List Leaf} → Spells Base (list a none) x → (r : List Leaf) →
    begins starts_type (x ++ r) ≡ true
base_first (grammar.base_word m) r = refl
base_first (grammar.base_sign m) r = refl
base_first (grammar.base_core {x = x} h) r = wider starts_core starts_type core_is_type (x ++ r) (core_first h r)
base_first (grammar.base_sign_core m h) r = refl

qualifier_is_type : (j : Terminal) → qualifies false j ≡ true → starts_type j ≡ true
qualifier_is_type terminals.Qualifier e = refl
qualifier_is_type _ e = absurd cc

qualifier_first : {a : List Spot} {ts : Forest} {x : List Leaf} → Spells (Qualifier false) (list a ts) x →
    (r : List Leaf) → begins starts_type (x ++ r) ≡ true
qualifier_first (grammar.qualifier j m q) r = qualifier_is_type j q

space_first : {t : Syntax} {x : List Leaf} → Spells Space (one t) x → (r : List Leaf) →
    begins starts_type (x ++ r) ≡ true
space_first (grammar.space m) r = refl

pub type_first : {t : Syntax} {x : List Leaf} → Spells TypeName (one t) x → (r : List Leaf) →
    begins starts_type (x ++ r) ≡ true
type_first (grammar.type_plain {x = x} a {y = y} d {z = z} c) r =
    led starts_type x (y ++ z) r (many_first starts_type (λ b ts w q. qualifier_first q) a ((y ++ z) ++ r)
    (led starts_type y z r (base_first d (z ++ r))))
type_first (grammar.type_front {x = x} a {u = u} s {v = v} b {y = y} d {z = z} c) r =
    led starts_type x (u ++ (v ++ (y ++ z))) r (many_first starts_type (λ b ts w q. qualifier_first q) a
    ((u ++ (v ++ (y ++ z))) ++ r) (led starts_type u (v ++ (y ++ z)) r (space_first s ((v ++ (y ++ z)) ++ r))))
type_first (grammar.type_behind {x = x} a {y = y} d {v = v} b {u = u} s {z = z} c) r =
    led starts_type x (y ++ (v ++ (u ++ z))) r (many_first starts_type (λ b ts w q. qualifier_first q) a
    ((y ++ (v ++ (u ++ z))) ++ r) (led starts_type y (v ++ (u ++ z)) r (base_first d ((v ++ (u ++ z)) ++ r))))

pub star_first : {t : Syntax} {x : List Leaf} → Spells Star (one t) x → (r : List Leaf) →
    begins starts_declarator (x ++ r) ≡ true
star_first (grammar.star o h) r = refl

pub declarator_first : {t : Syntax} {x : List Leaf} → Spells Declarator (one t) x → (r : List Leaf) →
    begins starts_declarator (x ++ r) ≡ true
declarator_first (grammar.declarator grammar.maybe_none m d) r = refl
declarator_first (grammar.declarator (grammar.maybe_some {x = x} h) m {y = y} d) r =
    led starts_declarator x (tok terminals.Name m ∷ y) r (star_first h ((tok terminals.Name m ∷ y) ++ r))
declarator_first (grammar.declarator_set grammar.maybe_none m d e i) r = refl
declarator_first (grammar.declarator_set (grammar.maybe_some {x = x} h) m {y = y} d e {z = z} i) r =
    led starts_declarator x (tok terminals.Name m ∷ (y ++ (tok terminals.Equals e ∷ z))) r
    (star_first h ((tok terminals.Name m ∷ (y ++ (tok terminals.Equals e ∷ z))) ++ r))

pub declare_first : {t : Syntax} {x : List Leaf} → Spells Declare (one t) x → (r : List Leaf) →
    begins starts_type (x ++ r) ≡ true
declare_first (grammar.declare {x = x} h {y = y} d {z = z} l s) r =
    led starts_type x (y ++ (z ++ (tok terminals.Semicolon s ∷ []))) r
    (type_first h ((y ++ (z ++ (tok terminals.Semicolon s ∷ []))) ++ r))

-- ---- expressions

abbrev pub is_expression : Sort → Bool
is_expression Expr = true
is_expression Assign = true
is_expression Cond = true
is_expression (Level k) = true
is_expression Cast = true
is_expression Unary = true
is_expression Postfix = true
is_expression Primary = true
is_expression _ = false

prefix_is_expression : (j : Terminal) → prefixes j ≡ true → starts_expression j ≡ true
prefix_is_expression terminals.PlusMinus e = refl
prefix_is_expression terminals.Tilde e = refl
prefix_is_expression terminals.Ampersand e = refl
prefix_is_expression terminals.Star e = refl
prefix_is_expression _ e = absurd cc

pub expression_first : {s : Sort} {t : Syntax} {x : List Leaf} → is_expression s ≡ true → Spells s (one t) x →
    (r : List Leaf) → begins starts_expression (x ++ r) ≡ true
expression_first e (grammar.expr_assign h) r = expression_first refl h r
expression_first e (grammar.expr {x = x} h m {y = y} k) r =
    led starts_expression x (tok terminals.Comma m ∷ y) r (expression_first refl h ((tok terminals.Comma m ∷ y) ++ r))
expression_first e (grammar.assign_cond h) r = expression_first refl h r
expression_first e (grammar.assign {x = x} h j m q {y = y} k) r =
    led starts_expression x (tok j m ∷ y) r (expression_first refl h ((tok j m ∷ y) ++ r))
expression_first e (grammar.cond_level h) r = expression_first refl h r
expression_first e (grammar.cond {x = x} h q {y = y} a c {z = z} b) r =
    led starts_expression x (tok terminals.Question q ∷ (y ++ (tok terminals.Colon c ∷ z))) r
    (expression_first refl h ((tok terminals.Question q ∷ (y ++ (tok terminals.Colon c ∷ z))) ++ r))
expression_first e (grammar.level_cast h) r = expression_first refl h r
expression_first e (grammar.level_next h) r = expression_first refl h r
expression_first e (grammar.level {x = x} h j m q {y = y} k) r =
    led starts_expression x (tok j m ∷ y) r (expression_first refl h ((tok j m ∷ y) ++ r))
expression_first e (grammar.cast_unary h) r = expression_first refl h r
expression_first e (grammar.cast o h c i) r = refl
expression_first e (grammar.unary_postfix h) r = expression_first refl h r
expression_first e (grammar.unary_step m h) r = refl
expression_first e (grammar.unary_prefix j m q h) r = prefix_is_expression j q
expression_first e (grammar.unary_sizeof w o h c) r = refl
expression_first e (grammar.postfix_primary h) r = expression_first refl h r
expression_first e (grammar.index {x = x} h o {y = y} k c) r =
    led starts_expression x (tok terminals.OpenBracket o ∷ (y ++ (tok terminals.CloseBracket c ∷ []))) r
    (expression_first refl h ((tok terminals.OpenBracket o ∷ (y ++ (tok terminals.CloseBracket c ∷ []))) ++ r))
expression_first e (grammar.step {x = x} h m) r =
    led starts_expression x (tok terminals.Step m ∷ []) r (expression_first refl h ((tok terminals.Step m ∷ []) ++ r))
expression_first e (grammar.selection {x = x} h d n) r =
    led starts_expression x (tok terminals.Point d ∷ tok terminals.Name n ∷ []) r
    (expression_first refl h ((tok terminals.Point d ∷ tok terminals.Name n ∷ []) ++ r))
expression_first e (grammar.number n) r = refl
expression_first e (grammar.truth n) r = refl
expression_first e (grammar.variable n) r = refl
expression_first e (grammar.call_none n o c) r = refl
expression_first e (grammar.call n o h a c) r = refl
expression_first e (grammar.paren o h c) r = refl
expression_first e _ r = absurd cc

-- ---- statements

expression_is_simple : (j : Terminal) → starts_expression j ≡ true → starts_simple j ≡ true
expression_is_simple terminals.Name e = refl
expression_is_simple terminals.Number e = refl
expression_is_simple terminals.Truth e = refl
expression_is_simple terminals.Open e = refl
expression_is_simple terminals.PlusMinus e = refl
expression_is_simple terminals.Tilde e = refl
expression_is_simple terminals.Ampersand e = refl
expression_is_simple terminals.Star e = refl
expression_is_simple terminals.Step e = refl
expression_is_simple terminals.Sizeof e = refl
expression_is_simple _ e = absurd cc

simple_is_statement : (j : Terminal) → starts_simple j ≡ true → starts_statement j ≡ true
simple_is_statement terminals.Name e = refl
simple_is_statement terminals.Number e = refl
simple_is_statement terminals.Truth e = refl
simple_is_statement terminals.Open e = refl
simple_is_statement terminals.PlusMinus e = refl
simple_is_statement terminals.Tilde e = refl
simple_is_statement terminals.Ampersand e = refl
simple_is_statement terminals.Star e = refl
simple_is_statement terminals.Step e = refl
simple_is_statement terminals.Sizeof e = refl
simple_is_statement terminals.Semicolon e = refl
simple_is_statement _ e = absurd cc

pub block_first : {t : Syntax} {x : List Leaf} → Spells Block (one t) x → (r : List Leaf) →
    begins starts_statement (x ++ r) ≡ true
block_first (grammar.block o b c) r = refl

pub simple_first : {t : Syntax} {x : List Leaf} → Spells Simple (one t) x → (r : List Leaf) →
    begins starts_simple (x ++ r) ≡ true
simple_first (grammar.simple grammar.maybe_none s) r = refl
simple_first (grammar.simple (grammar.maybe_some {x = x} h) s) r =
    led starts_simple x (tok terminals.Semicolon s ∷ []) r (wider starts_expression starts_simple expression_is_simple
    (x ++ (tok terminals.Semicolon s ∷ r)) (expression_first refl h (tok terminals.Semicolon s ∷ r)))

pub statement_first : {t : Syntax} {x : List Leaf} → Spells Statement (one t) x → (r : List Leaf) →
    begins starts_statement (x ++ r) ≡ true
statement_first (grammar.statement_block h) r = block_first h r
statement_first (grammar.statement_simple {x = x} h) r =
    wider starts_simple starts_statement simple_is_statement (x ++ r) (simple_first h r)
statement_first (grammar.if_short i o h c s) r = refl
statement_first (grammar.if_long i o h c s q k u) r = refl
statement_first (grammar.while w o h c s) r = refl
statement_first (grammar.do_while d s w o e c m) r = refl
statement_first (grammar.for f o d t s u c b) r = refl
statement_first (grammar.switch w o e c b l d) r = refl
statement_first (grammar.case w e c s) r = refl
statement_first (grammar.default w c s) r = refl
statement_first (grammar.break w s) r = refl
statement_first (grammar.continue w s) r = refl
statement_first (grammar.return w h s) r = refl

-- what a declaration or a statement can begin with
abbrev pub starts_line : Terminal → Bool
starts_line terminals.Qualifier = true
starts_line terminals.Space = true
starts_line terminals.TypeWord = true
starts_line terminals.Sign = true
starts_line terminals.Char = true
starts_line terminals.Int = true
starts_line terminals.Length = true
starts_line j = starts_statement j

type_is_line : (j : Terminal) → starts_type j ≡ true → starts_line j ≡ true
type_is_line terminals.Qualifier e = refl
type_is_line terminals.Space e = refl
type_is_line terminals.TypeWord e = refl
type_is_line terminals.Sign e = refl
type_is_line terminals.Char e = refl
type_is_line terminals.Int e = refl
type_is_line terminals.Length e = refl
type_is_line _ e = absurd cc

statement_is_line : (j : Terminal) → starts_statement j ≡ true → starts_line j ≡ true
statement_is_line terminals.Qualifier e = refl
statement_is_line terminals.Space e = refl
statement_is_line terminals.TypeWord e = refl
statement_is_line terminals.Sign e = refl
statement_is_line terminals.Char e = refl
statement_is_line terminals.Int e = refl
statement_is_line terminals.Length e = refl
statement_is_line _ e = e

pub line_first : {t : Syntax} {x : List Leaf} → Spells Line (one t) x → (r : List Leaf) →
    begins starts_line (x ++ r) ≡ true
line_first (grammar.line_declare {x = x} h) r = wider starts_type starts_line type_is_line (x ++ r) (declare_first h r)
line_first (grammar.line_statement {x = x} h) r =
    wider starts_statement starts_line statement_is_line (x ++ r) (statement_first h r)

-- ---- items

abbrev pub any : Terminal → Bool
any j = true

pub head_first : {t : Syntax} {x : List Leaf} → Spells Head (one t) x → (r : List Leaf) →
    begins starts_head (x ++ r) ≡ true
head_first (grammar.head_word m) r = refl
head_first (grammar.head_attribute (grammar.attribute w o p n q a j b k c e f g)) r = refl

pub result_first : {t : Syntax} {x : List Leaf} → Spells Result (one t) x → (r : List Leaf) → begins any (x ++ r) ≡ true
result_first (grammar.result_void m) r = refl
result_first (grammar.result {x = x} h) r = wider starts_type any (λ j e. refl) (x ++ r) (type_first h r)

pub param_first : {t : Syntax} {x : List Leaf} → Spells Param (one t) x → (r : List Leaf) →
    begins starts_type (x ++ r) ≡ true
param_first (grammar.param {x = x} h {y = y} s m) r =
    led starts_type x (y ++ (tok terminals.Name m ∷ [])) r (type_first h ((y ++ (tok terminals.Name m ∷ [])) ++ r))

just_head_first : {a : List Spot} {ts : Forest} {x : List Leaf} → Spells (Just Head) (list a ts) x → (r : List Leaf) →
    begins any (x ++ r) ≡ true
just_head_first (grammar.just {x = x} h) r = wider starts_head any (λ j e. refl) (x ++ r) (head_first h r)

pub item_first : {t : Syntax} {x : List Leaf} → Spells Item (one t) x → (r : List Leaf) → begins any (x ++ r) ≡ true
item_first (grammar.item_declare {x = x} h) r = wider starts_type any (λ j e. refl) (x ++ r) (declare_first h r)
item_first (grammar.function {x = x} h {y = y} i m o {z = z} p c {w = w} b) r =
    led any x (y ++ (tok terminals.Name m ∷ tok terminals.Open o ∷ (z ++ (tok terminals.Close c ∷ w)))) r
    (many_first any (λ b ts v q. just_head_first q) h
    ((y ++ (tok terminals.Name m ∷ tok terminals.Open o ∷ (z ++ (tok terminals.Close c ∷ w)))) ++ r)
    (led any y (tok terminals.Name m ∷ tok terminals.Open o ∷ (z ++ (tok terminals.Close c ∷ w))) r
    (result_first i ((tok terminals.Name m ∷ tok terminals.Open o ∷ (z ++ (tok terminals.Close c ∷ w))) ++ r))))
item_first (grammar.prototype {x = x} h {y = y} i m o {z = z} p c s) r =
    led any x (y ++ (tok terminals.Name m ∷ tok terminals.Open o ∷
    (z ++ (tok terminals.Close c ∷ tok terminals.Semicolon s ∷ [])))) r
    (many_first any (λ b ts v q. just_head_first q) h
    ((y ++ (tok terminals.Name m ∷ tok terminals.Open o ∷
    (z ++ (tok terminals.Close c ∷ tok terminals.Semicolon s ∷ [])))) ++ r)
    (led any y (tok terminals.Name m ∷ tok terminals.Open o ∷
    (z ++ (tok terminals.Close c ∷ tok terminals.Semicolon s ∷ []))) r
    (result_first i ((tok terminals.Name m ∷ tok terminals.Open o ∷
    (z ++ (tok terminals.Close c ∷ tok terminals.Semicolon s ∷ []))) ++ r))))
