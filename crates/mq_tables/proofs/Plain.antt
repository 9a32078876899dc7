-- What a text is, whatever the schema.
use Rattle.std.proofs.Common.{◌≡◌, ℕ, List, [], Bool, true, false, None, Ok, Err, refl, sym, ap, ◌∙◌}
use Rattle.mq_tables.proofs.Words.{Checked, Compiled, Parsed, Schema, and_then, command, compiled, first, if_select, listing_schema, meaning, planned, reads_listing, returning, timed, understood, with_command}
use Rattle.std.specs.Prelude.{if◌then◌else◌}
use Rattle.sqlite_ast.specs.declared.Statement.TheVariants as written
use Rattle.sqlite_ast.specs.declared.Select as written_select
use Rattle.sqlite_schema.specs.declared.command.Command.{Command}
use Rattle.sqlite_resolve.specs.declared.error.CompileError.TheVariants.{NoSuchTable}

abbrev pub no_text : Parsed
no_text = record { statement = written.Empty; names = []; formats = []; start = 0; end = 0; tail = 0 }

abbrev pub parsed_in : Checked Parsed → Parsed
parsed_in (Ok p) = p
parsed_in (Err e) = no_text

-- a query has no RETURNING, and no time of its own
abbrev pub IsQuery : Parsed → Type 0
IsQuery p = (s : written_select.Select) × (p.statement ≡ written.Select s) × (p.formats ≡ [])

abbrev pub IsBare : Compiled → Type 0
IsBare c = (c.returning ≡ None) × (c.formats ≡ [])

bare_plan : (formats : List (List ℕ)) (p : Parsed) (c : Compiled) (r : Checked Command)
    → and_then (and_then (and_then r (λ k. Ok (k, None))) (λ found. Ok (formats, found))) (λ plan. Ok (with_command p plan)) ≡ Ok c → formats ≡ [] → IsBare c
bare_plan formats p c (Ok k) h none =
    let e : ◌≡◌ {A = Checked Compiled} (Ok (with_command p (formats, (k, None)))) (Ok c) = h in
    let same : with_command p (formats, (k, None)) ≡ c = cc in
    (sym (ap (λ (x : Compiled). x.returning) same), sym (ap (λ (x : Compiled). x.formats) same) ∙ none)
bare_plan formats p c (Err e) h none = absurd (cc)

query_bare : (s : Schema) (p : Parsed) (c : Compiled) → IsQuery p → and_then (planned s p) (λ plan. Ok (with_command p plan)) ≡ Ok c → IsBare c
unfolding planned meaning returning timed
query_bare s p c (sel, is, none) h = bare_plan p.formats p c (command s p.formats _ (written.Select sel)) (rw is at h) none

-- what names a table of ours, and isn't known where there is none, doesn't read the listing, whatever the schema
pub as_compiled : (text : List ℕ) → if_select (compiled listing_schema text) ≡ Err NoSuchTable → (s : Schema) (c : Compiled) → understood s text ≡ Ok c → (reads_listing s text ≡ false) × (compiled s text ≡ Ok c)
unfolding understood
as_compiled text unlisted s c h = go (reads_listing s text) h
  where
    go : (b : Bool) → (if b then if_select (compiled listing_schema text) else compiled s text) ≡ Ok c → (b ≡ false) × (compiled s text ≡ Ok c)
    go true e = absurd (let none = sym unlisted ∙ e in cc)
    go false e = (refl, e)

-- such a query returns nothing of a write, and reads no time
pub any_bare : (text : List ℕ) → first text ≡ Ok (parsed_in (first text)) → IsQuery (parsed_in (first text)) → if_select (compiled listing_schema text) ≡ Err NoSuchTable
    → (s : Schema) (c : Compiled) → understood s text ≡ Ok c → IsBare c
unfolding compiled
any_bare text parses query unlisted s c h = query_bare s (parsed_in (first text)) c query (rw parses at (as_compiled text unlisted s c h).1)
