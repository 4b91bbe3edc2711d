-- The places of statements that are laid out: each after the lists that were there, and the last of its own.
use Rattle.std.proofs.Common.{◌≡◌, ℕ, ◌+◌, ◌≤◌, length, arith}
use Rattle.std.proofs.lemmas.List.{length_push}
use Rattle.vp_source.specs.declared.statement.Statement.TheVariants as statement
use Rattle.vp_source.specs.StmtGrammar.{Stmt, Assign, Block, Null, Nonblocking, Delayed, Awaited, Wait, When, Choose, While, Forever, For, Case, Finish, Stmts, Empty, Then}
use Rattle.vp_source.specs.StmtLayout.{Lists, put_blocking, put_event, put_items, put_stmt, put_stmts, put_value, with_statement}
use Rattle.vp_source.proofs.GrowingParts.{blocking_grows, event_grows, items_grow, longer, onward, statement_grows, stmt_grows, value_grows}

-- the last statement of a block is the last of the lists
chain_last : (l : Stmts) (chain : ℕ) (lists : Lists) → length lists.statements ≡ chain + 1 → length (put_stmts l chain lists).1.statements ≡ (put_stmts l chain lists).0 + 1
chain_last Empty chain lists h = h
chain_last (Then s l) chain lists h =
    let x = put_stmt s lists in
    let n = statement.Then chain x.0 in
    chain_last l (length x.1.statements) (with_statement n x.1).1 (length_push x.1.statements n)

-- the place of a statement is the last of those of its parts
pub stmt_last : (s : Stmt) (lists : Lists) → length (put_stmt s lists).1.statements ≡ (put_stmt s lists).0 + 1
stmt_last (Assign target s equals value semicolon) lists = length_push lists.statements _
stmt_last (Block begin body end) lists =
    chain_last body (length lists.statements) (with_statement statement.Empty lists).1 (length_push lists.statements statement.Empty)
stmt_last (Null semicolon) lists = length_push lists.statements _
stmt_last (Nonblocking target s arrow hold value semicolon) lists = length_push lists.statements _
stmt_last (Delayed hash delay body) lists = length_push (put_stmt body lists).1.statements _
stmt_last (Awaited at_place event body) lists = length_push (put_stmt body (put_event event lists).1).1.statements _
stmt_last (Wait wait opening value closing body) lists = length_push (put_stmt body (put_value value lists).1).1.statements _
stmt_last (When if_place opening value closing first) lists = length_push (put_stmt first (put_value value lists).1).1.statements _
stmt_last (Choose if_place opening value closing first else_place second) lists =
    length_push (put_stmt second (put_stmt first (put_value value lists).1).1).1.statements _
stmt_last (While while_place opening value closing body) lists = length_push (put_stmt body (put_value value lists).1).1.statements _
stmt_last (Forever forever body) lists = length_push (put_stmt body lists).1.statements _
stmt_last (For for_place opening target s equals value first_semicolon condition second_semicolon step_target step_s step_equals step closing body) lists =
    let z = put_blocking step_target step_s step (put_value condition (put_blocking target s value lists).1).1 in
    length_push (with_statement _ (put_stmt body z.1).1).1.statements _
stmt_last (Case sort case_place opening value closing items endcase) lists =
    length_push (put_items items (put_value value lists).1).1.statements _
stmt_last (Finish finish argument semicolon) lists = length_push lists.statements _

-- a block has its place no earlier than the chain that it goes on with
chain_from : (l : Stmts) (chain : ℕ) (lists : Lists) → chain ≤ length lists.statements → chain ≤ (put_stmts l chain lists).0
chain_from Empty chain lists h = omega arith
chain_from (Then s l) chain lists h =
    let x = put_stmt s lists in
    let n = statement.Then chain x.0 in
    let p = length_push x.1.statements n in
    let g = longer (stmt_grows s lists).statements in
    let k : length x.1.statements ≤ (put_stmts l (length x.1.statements) (with_statement n x.1).1).0 =
    chain_from l (length x.1.statements) (with_statement n x.1).1 (omega arith) in
    omega arith

-- a statement has its place after the statements that were there
pub stmt_from : (s : Stmt) (lists : Lists) → length lists.statements ≤ (put_stmt s lists).0
stmt_from (Assign target s equals value semicolon) lists = omega arith
stmt_from (Block begin body end) lists =
    let n = length_push lists.statements statement.Empty in
    chain_from body (length lists.statements) (with_statement statement.Empty lists).1 (omega arith)
stmt_from (Null semicolon) lists = omega arith
stmt_from (Nonblocking target s arrow hold value semicolon) lists = omega arith
stmt_from (Delayed hash delay body) lists = longer (stmt_grows body lists).statements
stmt_from (Awaited at_place event body) lists = longer (onward (event_grows event lists) (stmt_grows body (put_event event lists).1)).statements
stmt_from (Wait wait opening value closing body) lists = longer (stmt_grows body (put_value value lists).1).statements
stmt_from (When if_place opening value closing first) lists = longer (stmt_grows first (put_value value lists).1).statements
stmt_from (Choose if_place opening value closing first else_place second) lists =
    let a = put_stmt first (put_value value lists).1 in
    longer (onward (stmt_grows first (put_value value lists).1) (stmt_grows second a.1)).statements
stmt_from (While while_place opening value closing body) lists = longer (stmt_grows body (put_value value lists).1).statements
stmt_from (Forever forever body) lists = longer (stmt_grows body lists).statements
stmt_from (For for_place opening target s equals value first_semicolon condition second_semicolon step_target step_s step_equals step closing body) lists =
    let x = put_blocking target s value lists in
    let c = put_value condition x.1 in
    let z = put_blocking step_target step_s step c.1 in
    let b = put_stmt body z.1 in
    longer (onward (blocking_grows target s value lists) (onward (value_grows condition x.1) (onward (blocking_grows step_target step_s step c.1) (onward (stmt_grows body z.1) (statement_grows _ b.1))))).statements
stmt_from (Case sort case_place opening value closing items endcase) lists = longer (items_grow items (put_value value lists).1).statements
stmt_from (Finish finish argument semicolon) lists = omega arith
