use Rattle.std.proofs.Common.{◌≡◌, ◌∙◌, List, length, Option, Some, None, Ok, ap, subst, sym}
use Rattle.rep_core.proofs.Standing.{Stands-own}
use Rattle.rep_store.specs.Extracting.{PutsLead, lead_text}
use Rattle.rep_store.specs.declared.extracting.Lead.{Lead}
use Rattle.rep_io.specs.declared.sink.SinkFault.{SinkFault}
use Rattle.rep_wire.specs.Reply.{extract_text}
use Rattle.rep_store.proofs.Extractions.{PutsLead-line, PutsLead-none}
use Rattle.rep_store.proofs.extracting.put_lead.Goals as goal

pub returns-in_default-clause-puts : goal.returns-in_default-clause-puts
returns-in_default-clause-puts g c = λ site is_site founded.
    let head = c.args.head.now in
    subst (λ (o : Option Lead). PutsLead {E = SinkFault} site c.args.core.now.entries o head.first head.last (g.K.Sink.written c.args.sink.now) (g.K.Sink.written c.args.sink.now) (Ok tt)) (sym c.in_default.is)
    (PutsLead-none {E = SinkFault} site c.args.core.now.entries head.first head.last (g.K.Sink.written c.args.sink.now))

pub returns-clause-puts : goal.returns-clause-puts
returns-clause-puts g c = λ site is_site founded.
    let head = c.args.head.now in
    let h = c.args.core.now.entries in
    let lead = c.in-Some.lead in
    let size = c.size_of-size.result in
    let count = c.count.ensures.value h (Stands-own c.args.core.now) in
    let same = c.bytes.ensures.value ∙ c.extract_line-line.ensures ∙ ap (extract_text lead.line lead.seq size) count in
    subst (λ (o : Option Lead). PutsLead site h o head.first head.last (g.K.Sink.written c.args.sink.now) (g.K.Sink.written c.put_all.new.sink) c.put_all.result) (sym c.in-Some.is)
    (PutsLead-line site h lead head.first head.last (g.K.Sink.written c.args.sink.now) (g.K.Sink.written c.put_all.new.sink) size c.bytes.result.now c.put_all.result
    (λ minute text afd. c.size_of-size.ensures site minute text is_site founded afd) same c.put_all.ensures.bytes)
