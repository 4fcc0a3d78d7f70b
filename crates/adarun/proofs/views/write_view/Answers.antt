use Rattle.adarun.proofs.views.write_view.Goals as goal

pub returns-in-Chart-clause-text : goal.returns-in-Chart-clause-text
returns-in-Chart-clause-text g c = rw c.in-Chart.is c.chart.ensures.text

pub returns-in-Chart-clause-beginning : goal.returns-in-Chart-clause-beginning
returns-in-Chart-clause-beginning g c = rw c.in-Chart.is c.chart.ensures.beginning

pub returns-in-Picture-clause-text : goal.returns-in-Picture-clause-text
returns-in-Picture-clause-text g c = rw c.in-Picture.is c.picture.ensures.text

pub returns-in-Picture-clause-beginning : goal.returns-in-Picture-clause-beginning
returns-in-Picture-clause-beginning g c = rw c.in-Picture.is c.picture.ensures.beginning
