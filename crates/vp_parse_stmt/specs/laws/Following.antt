-- To which if an else belongs.
use Rattle.std.proofs.Common.{◌≡◌, List, true, false}
use Rattle.vp_source.specs.declared.symbol.Symbol.{Symbol}
use Rattle.vp_source.specs.StmtGrammar.{Stmt, Delayed, When, Choose, Wait, While, Forever, IsClosed, For, Awaited}
use Rattle.vp_parse_stmt.specs.Meaning.{Follows}
use Rattle.vp_parse_stmt.specs.Reading.{is_else}

-- after what an else follows no if stands open
pub follows_closed : (s : Stmt) (ts : List Symbol) → Follows s ts → is_else ts ≡ true → IsClosed s
follows_closed (When if_place opening value closing first) ts h e = absurd cc
follows_closed (Choose if_place opening value closing first else_place second) ts h e = follows_closed second ts h e
follows_closed (Delayed hash delay body) ts h e = follows_closed body ts h e
follows_closed (Wait wait opening value closing body) ts h e = follows_closed body ts h e
follows_closed (While while_place opening value closing body) ts h e = follows_closed body ts h e
follows_closed (Forever forever body) ts h e = follows_closed body ts h e
follows_closed (For for_place opening target selection equals value first_semicolon condition second_semicolon step_target step_selection step_equals step closing body) ts h e = follows_closed body ts h e
follows_closed (Awaited at_place event body) ts h e = follows_closed body ts h e
follows_closed _ ts h e = tt

-- anything may follow where no if stands open
pub closed_follows : (s : Stmt) (ts : List Symbol) → IsClosed s → Follows s ts
closed_follows (When if_place opening value closing first) ts h = absurd h
closed_follows (Choose if_place opening value closing first else_place second) ts h = closed_follows second ts h
closed_follows (Delayed hash delay body) ts h = closed_follows body ts h
closed_follows (Wait wait opening value closing body) ts h = closed_follows body ts h
closed_follows (While while_place opening value closing body) ts h = closed_follows body ts h
closed_follows (Forever forever body) ts h = closed_follows body ts h
closed_follows (For for_place opening target selection equals value first_semicolon condition second_semicolon step_target step_selection step_equals step closing body) ts h = closed_follows body ts h
closed_follows (Awaited at_place event body) ts h = closed_follows body ts h
closed_follows _ ts h = tt

-- what is no else may follow each statement
pub end_follows : (s : Stmt) (ts : List Symbol) → is_else ts ≡ false → Follows s ts
end_follows (When if_place opening value closing first) ts h = h
end_follows (Choose if_place opening value closing first else_place second) ts h = end_follows second ts h
end_follows (Delayed hash delay body) ts h = end_follows body ts h
end_follows (Wait wait opening value closing body) ts h = end_follows body ts h
end_follows (While while_place opening value closing body) ts h = end_follows body ts h
end_follows (Forever forever body) ts h = end_follows body ts h
end_follows (For for_place opening target selection equals value first_semicolon condition second_semicolon step_target step_selection step_equals step closing body) ts h = end_follows body ts h
end_follows (Awaited at_place event body) ts h = end_follows body ts h
end_follows _ ts h = tt
