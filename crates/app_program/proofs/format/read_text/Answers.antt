use Rattle.app_program.proofs.format.read_text.Goals as goal

pub returns-clause-text : goal.returns-clause-text
returns-clause-text g c =
    let read = c.in_ok-document.ensures.read in
    (c.in_ok-document.document, read, c.in_ok-text.ensures.text, c.in_ok-text.ensures.again read.bytes read.spelled)
