-- What the grammar spells as a statement is read; so the readers read all that nests so little.
use Rattle.std.proofs.Common.{◌≡◌, ℕ, zero, suc, ◌≤◌, Bool, true, false, List, [], ◌∷◌, ◌++◌, refl, ◌∙◌, append_assoc}
use Rattle.std.proofs.Common.{arith}
use Rattle.cl_tree.specs.declared.terminal.Terminal.{Terminal}
use Rattle.cl_tree.specs.declared.terminal.Terminal.TheVariants as terminals
use Rattle.cl_tree.specs.declared.terminal.Leaf.{Leaf}
use Rattle.cl_tree.specs.Syntax.{Syntax, Forest, none, more, joined, nesting, deepest}
use Rattle.cl_tree.specs.Nodes.{Spot, tok}
use Rattle.cl_tree.specs.Grammar as grammar
use Rattle.cl_tree.specs.Grammar.{Block, Line, Start, Simple, Statement, Expr, Maybe}
use Rattle.cl_tree.specs.Grammar.{Just, one, list, Spells}
use Rattle.cl_read.specs.Starts.{starts_type, starts_expression, starts_simple, starts_statement}
use Rattle.cl_read.specs.Reading.{Got, begins, is, each, unless, Readers, line_of, block_of, simple_of, if_of}
use Rattle.cl_read.specs.Reading.{while_of, do_of, start_of, for_of, switch_of, case_of, default_of, leave_of}
use Rattle.cl_read.specs.Reading.{return_of, leaving, labelled, statement_of, readers, next_readers}
use Rattle.cl_read.proofs.Tails.{excluded, not_begun}
use Rattle.cl_read.proofs.First.{starts_line, declare_first, simple_first, statement_first, line_first}
use Rattle.cl_read.proofs.Sound.{AllGood}
use Rattle.cl_read.proofs.SoundStatements.{not_end, lines_shrink, statements_shrink, all_good}
use Rattle.cl_read.proofs.Ends.{for_closed}
use Rattle.cl_read.proofs.Follow.{Behind, nested, NoElse, AllFull, onto}
use Rattle.cl_read.proofs.Complete.{deepest_joined, listing, many_read, unless_reads, full_space, full_star}
use Rattle.cl_read.proofs.Complete.{full_type, full_declarator, full_declare, full_initializers}
use Rattle.cl_read.proofs.CompleteExpressions.{full_unary, full_cast, full_level, full_cond, full_assign, full_expr}

statement_no_type : (j : Terminal) → starts_statement j ≡ true → starts_type j ≡ false
statement_no_type terminals.Qualifier e = absurd cc
statement_no_type terminals.Space e = absurd cc
statement_no_type terminals.TypeWord e = absurd cc
statement_no_type terminals.Sign e = absurd cc
statement_no_type terminals.Char e = absurd cc
statement_no_type terminals.Int e = absurd cc
statement_no_type terminals.Length e = absurd cc
statement_no_type _ e = refl

simple_no_type : (j : Terminal) → starts_simple j ≡ true → starts_type j ≡ false
simple_no_type terminals.Qualifier e = absurd cc
simple_no_type terminals.Space e = absurd cc
simple_no_type terminals.TypeWord e = absurd cc
simple_no_type terminals.Sign e = absurd cc
simple_no_type terminals.Char e = absurd cc
simple_no_type terminals.Int e = absurd cc
simple_no_type terminals.Length e = absurd cc
simple_no_type _ e = refl

-- the next token exists and closes no brace
no_end : (test : Terminal → Bool) → test terminals.CloseBrace ≡ false → (ts : List Leaf) → begins test ts ≡ true →
    begins not_end ts ≡ true
no_end test h [] b = absurd cc
no_end test h (i ∷ ts) b = let c : begins (is terminals.CloseBrace) (i ∷ ts) ≡ false =
    not_begun test terminals.CloseBrace h (i ∷ ts) b in rw c refl

abbrev NotElse : List Leaf → Type 0
NotElse rest = begins (is terminals.Else) rest ≡ false

module _ (n : ℕ) (low : Readers) (g : AllGood low) (f : AllFull low n) where
  expr_option : (k : Terminal) → starts_expression k ≡ false →
      ((m : Spot) (r : List Leaf) → Behind 13 (tok k m ∷ r)) → {ts : Forest} {x : List Leaf} →
      Spells (Maybe Expr) (list [] ts) x → deepest ts ≤ n → (c : Spot) (rest : List Leaf) →
      unless (is k) low.expr (x ++ (tok k c ∷ rest)) ≡ Got ts (tok k c ∷ rest)
  expr_option k e b h d c rest =
      unless_reads k low.expr Expr refl e n (λ t z i e c r. f.expr i e (tok k c ∷ r) (b c r)) h d c rest

  line_reads : {t : Syntax} {x : List Leaf} → Spells Line (one t) x → nesting t ≤ n → (rest : List Leaf) →
      NotElse rest → line_of low (x ++ rest) ≡ Got t rest
  unfolding line_of
  line_reads (grammar.line_declare {x = x} h) d rest b = let c : begins starts_type (x ++ rest) ≡ true =
      declare_first h rest in rw c (f.declare h d rest)
  line_reads (grammar.line_statement {x = x} h) d rest b =
      let c : begins starts_type (x ++ rest) ≡ false =
      excluded starts_statement starts_type statement_no_type (x ++ rest) (statement_first h rest) in
      rw c (f.statement h d rest (λ _. b))

  each_line_reads : (a : List Spot) (ts : Forest) (x : List Leaf) → Spells (Just Line) (list a ts) x →
      deepest ts ≤ n → (rest : List Leaf) → NotElse rest →
      each (line_of low) (x ++ rest) ≡ Got (true, listing a ts) rest
  each_line_reads a ts x (grammar.just h) d rest b = onto _ (line_reads h (omega arith) rest b) refl

  line_begins : (a : List Spot) (ts : Forest) (x : List Leaf) → Spells (Just Line) (list a ts) x →
      (rest : List Leaf) → begins not_end (x ++ rest) ≡ true
  line_begins a ts x (grammar.just h) rest = no_end starts_line refl (x ++ rest) (line_first h rest)

  line_keeps : (a : List Spot) (ts : Forest) (x : List Leaf) → Spells (Just Line) (list a ts) x → (rest : List Leaf) →
      NotElse (x ++ rest)
  line_keeps a ts x (grammar.just h) rest = not_begun starts_line terminals.Else refl (x ++ rest) (line_first h rest)

  pub full_block : {t : Syntax} {x : List Leaf} → Spells Block (one t) x → nesting t ≤ suc n → (rest : List Leaf) →
      block_of low (x ++ rest) ≡ Got t rest
  unfolding block_of
  full_block (grammar.block o {x = x} h c) d rest =
      rw (append_assoc x (tok terminals.CloseBrace c ∷ []) rest)
      (onto _ (many_read not_end (each (line_of low)) (Just Line) (lines_shrink low g) n NotElse each_line_reads
      line_begins line_keeps h (omega arith) (tok terminals.CloseBrace c ∷ rest) refl refl) refl)

  each_statement_reads : (a : List Spot) (ts : Forest) (x : List Leaf) → Spells (Just Statement) (list a ts) x →
      deepest ts ≤ n → (rest : List Leaf) → NotElse rest →
      each low.statement (x ++ rest) ≡ Got (true, listing a ts) rest
  each_statement_reads a ts x (grammar.just h) d rest b = onto _ (f.statement h (omega arith) rest (λ _. b)) refl

  statement_begins : (a : List Spot) (ts : Forest) (x : List Leaf) → Spells (Just Statement) (list a ts) x →
      (rest : List Leaf) → begins not_end (x ++ rest) ≡ true
  statement_begins a ts x (grammar.just h) rest = no_end starts_statement refl (x ++ rest) (statement_first h rest)

  statement_keeps : (a : List Spot) (ts : Forest) (x : List Leaf) → Spells (Just Statement) (list a ts) x →
      (rest : List Leaf) → NotElse (x ++ rest)
  statement_keeps a ts x (grammar.just h) rest =
      not_begun starts_statement terminals.Else refl (x ++ rest) (statement_first h rest)

  pub full_simple : {t : Syntax} {x : List Leaf} → Spells Simple (one t) x → nesting t ≤ suc n → (rest : List Leaf) →
      simple_of low (x ++ rest) ≡ Got t rest
  unfolding simple_of
  full_simple (grammar.simple {x = x} h s) d rest =
      rw (append_assoc x (tok terminals.Semicolon s ∷ []) rest)
      (onto _ (expr_option terminals.Semicolon refl (λ m r. refl) h (omega arith) s rest) refl)

  start_reads : {t : Syntax} {x : List Leaf} → Spells Start (one t) x → nesting t ≤ n → (rest : List Leaf) →
      start_of low (x ++ rest) ≡ Got t rest
  unfolding start_of
  start_reads (grammar.start_declare {x = x} h) d rest = let c : begins starts_type (x ++ rest) ≡ true =
      declare_first h rest in rw c (f.declare h d rest)
  start_reads (grammar.start_simple {x = x} h) d rest =
      let c : begins starts_type (x ++ rest) ≡ false =
      excluded starts_simple starts_type simple_no_type (x ++ rest) (simple_first h rest) in
      rw c (f.simple h d rest)

  -- an expression as a statement: none of the words begins it
  full_plain : {t : Syntax} {x : List Leaf} → Spells Simple (one t) x → nesting t ≤ suc n → (rest : List Leaf) →
      statement_of low (x ++ rest) ≡ Got t rest
  unfolding statement_of labelled leaving
  full_plain {t} {x} h d rest =
      let b : begins starts_simple (x ++ rest) ≡ true = simple_first h rest in
      let c0 : begins (is terminals.OpenBrace) (x ++ rest) ≡ false =
      not_begun starts_simple terminals.OpenBrace refl (x ++ rest) b in
      let c1 : begins (is terminals.If) (x ++ rest) ≡ false = not_begun starts_simple terminals.If refl (x ++ rest) b in
      let c2 : begins (is terminals.While) (x ++ rest) ≡ false =
      not_begun starts_simple terminals.While refl (x ++ rest) b in
      let c3 : begins (is terminals.Do) (x ++ rest) ≡ false = not_begun starts_simple terminals.Do refl (x ++ rest) b in
      let c4 : begins (is terminals.For) (x ++ rest) ≡ false =
      not_begun starts_simple terminals.For refl (x ++ rest) b in
      let c5 : begins (is terminals.Switch) (x ++ rest) ≡ false =
      not_begun starts_simple terminals.Switch refl (x ++ rest) b in
      let c6 : begins (is terminals.Case) (x ++ rest) ≡ false =
      not_begun starts_simple terminals.Case refl (x ++ rest) b in
      let c7 : begins (is terminals.Default) (x ++ rest) ≡ false =
      not_begun starts_simple terminals.Default refl (x ++ rest) b in
      let c8 : begins (is terminals.Break) (x ++ rest) ≡ false =
      not_begun starts_simple terminals.Break refl (x ++ rest) b in
      let c9 : begins (is terminals.Continue) (x ++ rest) ≡ false =
      not_begun starts_simple terminals.Continue refl (x ++ rest) b in
      let c10 : begins (is terminals.Return) (x ++ rest) ≡ false =
      not_begun starts_simple terminals.Return refl (x ++ rest) b in
      rw (c0, c1, c2, c3, c4, c5, c6, c7, c8, c9, c10) (full_simple h d rest)

  full_braces : {t : Syntax} {x : List Leaf} → Spells Block (one t) x → nesting t ≤ suc n → (rest : List Leaf) →
      statement_of low (x ++ rest) ≡ Got t rest
  unfolding statement_of
  full_braces (grammar.block o h c) d rest = full_block (grammar.block o h c) d rest

  full_statement : {t : Syntax} {x : List Leaf} → Spells Statement (one t) x → nesting t ≤ suc n →
      (rest : List Leaf) → NoElse t rest → statement_of low (x ++ rest) ≡ Got t rest
  unfolding statement_of if_of while_of do_of for_of labelled switch_of case_of default_of leaving leave_of return_of
  full_statement (grammar.statement_block h) d rest q = full_braces h d rest
  full_statement (grammar.statement_simple h) d rest q = full_plain h d rest
  full_statement (grammar.if_short i o {x = x} h c {s = s} {y = y} k) d rest q =
      let no_else : begins (is terminals.Else) rest ≡ false = q refl in
      rw (append_assoc x (tok terminals.Close c ∷ y) rest)
      (onto _ (f.expr h (omega arith) (tok terminals.Close c ∷ (y ++ rest)) refl)
      (onto _ (f.statement k (omega arith) rest (λ _. no_else)) (rw no_else refl)))
  full_statement (grammar.if_long i o {x = x} h c {s = s} {y = y} k shut m {u = u} {z = z} l) d rest q =
      rw (
        append_assoc x (tok terminals.Close c ∷ (y ++ (tok terminals.Else m ∷ z))) rest,
        append_assoc y (tok terminals.Else m ∷ z) rest,
      )
      (onto _ (f.expr h (omega arith) (tok terminals.Close c ∷ (y ++ (tok terminals.Else m ∷ (z ++ rest)))) refl)
      (onto _ (f.statement k (omega arith) (tok terminals.Else m ∷ (z ++ rest)) (λ open_. absurd cc))
      (onto _ (f.statement l (omega arith) rest q) refl)))
  full_statement (grammar.while w o {x = x} h c {y = y} k) d rest q =
      rw (append_assoc x (tok terminals.Close c ∷ y) rest)
      (onto _ (f.expr h (omega arith) (tok terminals.Close c ∷ (y ++ rest)) refl)
      (onto _ (f.statement k (omega arith) rest q) refl))
  full_statement (grammar.do_while e {x = x} h w o {y = y} k c m) d rest q =
      rw (
        append_assoc x (tok terminals.While w ∷ tok terminals.Open o ∷
            (y ++ (tok terminals.Close c ∷ tok terminals.Semicolon m ∷ []))) rest,
        append_assoc y (tok terminals.Close c ∷ tok terminals.Semicolon m ∷ []) rest,
      )
      (onto _ (f.statement h (omega arith) (tok terminals.While w ∷ tok terminals.Open o ∷
      (y ++ (tok terminals.Close c ∷ tok terminals.Semicolon m ∷ rest))) (λ _. refl))
      (onto _ (f.expr k (omega arith) (tok terminals.Close c ∷ tok terminals.Semicolon m ∷ rest) refl) refl))
  full_statement (grammar.for i o {d = t} {x = x} h {ts = ts} {y = y} j s {us = us} {z = z} k c {b = b} {w = w} l) d
      rest q =
      rw (
        append_assoc x (y ++ (tok terminals.Semicolon s ∷ (z ++ (tok terminals.Close c ∷ w)))) rest,
        append_assoc y (tok terminals.Semicolon s ∷ (z ++ (tok terminals.Close c ∷ w))) rest,
        append_assoc z (tok terminals.Close c ∷ w) rest,
      )
      (onto _ (start_reads h (omega arith)
      (y ++ (tok terminals.Semicolon s ∷ (z ++ (tok terminals.Close c ∷ (w ++ rest))))))
      (onto _ (expr_option terminals.Semicolon refl (λ m r. refl) j (omega (
        arith,
        deepest_joined ts (joined us (more b none)),
      )) s (z ++ (tok terminals.Close c ∷ (w ++ rest))))
      (onto _ (expr_option terminals.Close refl (λ m r. refl) k (omega (
        arith,
        deepest_joined ts (joined us (more b none)),
        deepest_joined us (more b none),
      )) c (w ++ rest))
      (onto _ (f.statement l (omega (
        arith,
        deepest_joined ts (joined us (more b none)),
        deepest_joined us (more b none),
      )) rest (λ e. q (for_closed i o t ts s us c b ∙ e))) refl))))
  full_statement (grammar.switch w o {x = x} h c b {y = y} k e) d rest q =
      rw (
        append_assoc x (tok terminals.Close c ∷ tok terminals.OpenBrace b ∷
            (y ++ (tok terminals.CloseBrace e ∷ []))) rest,
        append_assoc y (tok terminals.CloseBrace e ∷ []) rest,
      )
      (onto _ (f.expr h (omega arith) (tok terminals.Close c ∷ tok terminals.OpenBrace b ∷
      (y ++ (tok terminals.CloseBrace e ∷ rest))) refl)
      (onto _ (many_read not_end (each low.statement) (Just Statement) (statements_shrink low g) n NotElse
      each_statement_reads statement_begins statement_keeps k (omega arith) (tok terminals.CloseBrace e ∷
      rest) refl refl) refl))
  full_statement (grammar.case w {x = x} h c {y = y} k) d rest q =
      rw (append_assoc x (tok terminals.Colon c ∷ y) rest)
      (onto _ (f.cond' h (omega arith) (tok terminals.Colon c ∷ (y ++ rest)) refl)
      (onto _ (f.statement k (omega arith) rest q) refl))
  full_statement (grammar.default w c {y = y} k) d rest q = onto _ (f.statement k (omega arith) rest q) refl
  full_statement (grammar.break w s) d rest q = refl
  full_statement (grammar.continue w s) d rest q = refl
  full_statement (grammar.return w {x = x} h s) d rest q =
      rw (append_assoc x (tok terminals.Semicolon s ∷ []) rest)
      (onto _ (expr_option terminals.Semicolon refl (λ m r. refl) h (omega arith) s rest) refl)

  pub full_above : AllFull (next_readers n low) (suc n)
  full_above = record {
    space = λ h d rest. full_space h rest;
    star = λ h d rest b. full_star h rest b;
    type' = λ h d rest b. full_type n low g f h d rest b;
    declare = λ h d rest. full_declare n low g f h d rest;
    declarator = λ h d rest b. full_declarator n low g f h d rest b;
    initializers = λ h d rest. full_initializers n low g f h d rest;
    block = λ h d rest. full_block h d rest;
    simple = λ h d rest. full_simple h d rest;
    statement = λ h d rest q. full_statement h d rest q;
    expr = λ h d rest b. full_expr n low g f h d rest b;
    assign = λ h d rest b. full_assign n low g f h d rest b;
    cond' = λ h d rest b. full_cond n low g f h d rest b;
    level = λ k h d rest b. full_level n low g f k h d rest b;
    cast = λ h d rest b. full_cast n low g f h d rest b;
    unary = λ h d rest b. full_unary n low g f h d rest b;
  }

no_tree : {P : Type 0} (t : Syntax) → nesting t ≤ 0 → P
no_tree t d = absurd (omega (arith, nested t))

pub all_full : (n : ℕ) → AllFull (readers n) n
unfolding readers
all_full zero = record {
  space = λ {t} h d rest. no_tree t d;
  star = λ {t} h d rest b. no_tree t d;
  type' = λ {t} h d rest b. no_tree t d;
  declare = λ {t} h d rest. no_tree t d;
  declarator = λ {t} h d rest b. no_tree t d;
  initializers = λ {t} h d rest. no_tree t d;
  block = λ {t} h d rest. no_tree t d;
  simple = λ {t} h d rest. no_tree t d;
  statement = λ {t} h d rest q. no_tree t d;
  expr = λ {t} h d rest b. no_tree t d;
  assign = λ {t} h d rest b. no_tree t d;
  cond' = λ {t} h d rest b. no_tree t d;
  level = λ k {t} h d rest b. no_tree t d;
  cast = λ {t} h d rest b. no_tree t d;
  unary = λ {t} h d rest b. no_tree t d;
}
all_full (suc n) = full_above n (readers n) (all_good n) (all_full n)
