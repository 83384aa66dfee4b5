use Rattle.ls_session.proofs.session.Session.find.Goals as goal

pub returns : goal.returns
returns c = λ r st. c.find.ensures r.session.board.lines r.session.board.round st.subs
